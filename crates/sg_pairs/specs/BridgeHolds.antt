-- What is so of every run of a bridge, by what its lines say.
use Rattle.std.specs.Prelude.{List}
use Rattle.sg_pairs.specs.Bridged.{EachCrossingIsSealed, EachGoesBothWays, JoinedStayInside, Said}
use Rattle.sg_pairs.specs.Calls.{EachIsAsTold, EachJoinsAndPartsSo, MembersAreTheCalls}
use Rattle.sg_pairs.specs.Happening.{EachComesBehind, EachLineHappens}
use Rattle.sg_pairs.specs.Lasting.{EachPairLasts}
use Rattle.sg_pairs.specs.Lost.{EachLostIsRefused, EachOpenedIsSettled}
use Rattle.sg_pairs.specs.LostCauses.{EachLostShowsCause}
use Rattle.sg_pairs.specs.Telling.{EachSignalIsTold}

pub record BridgeHolds (said : List Said) : Type 0 where
  -- at the plain ports of a joined call nothing is told as put out
  pub inside : JoinedStayInside said
  -- what is told as put out at a secure port of one is the sealing of the packet that the other call opened right before
  pub crossing : EachCrossingIsSealed said
  -- a plain port of a joined call goes on to the one that goes on to it
  pub both_ways : EachGoesBothWays said
  -- each packet that a joined call opens is put out by the other call or told as lost, and that is all that is told
  pub settled : EachOpenedIsSettled said
  -- what is told as lost was opened by the other call, and refused with that cause, or there was no plain address for it
  pub lost : EachLostIsRefused said
  -- it shows that cause in the other call, as a drop does
  pub shown : EachLostShowsCause said
  -- before and after each line the calls that are known are the world's
  pub members : MembersAreTheCalls said
  -- a line that joins or parts tells that it is done, or the first cause why not
  pub causes : EachJoinsAndPartsSo said
  -- two calls that are told as joined are in one pair then, and one that a line parts is in none
  pub told : EachIsAsTold said
  -- a pair comes of a line that joins, and is in force until one of its calls ends or a line parts it, which is told
  pub pairs : EachPairLasts said
  -- each line's event happens, but for a datagram at a plain port of a joined call
  pub lines : EachLineHappens said
  -- of a signal all that the gateway tells is told, with the pairs that end by it, and nothing more
  pub signals : EachSignalIsTold said
  -- each line comes to the world and the pairs that the lines before it have left
  pub behind : EachComesBehind said
