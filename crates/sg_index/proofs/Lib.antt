mod NearestFaults
