pub mod HeadPrefixes
mod Numbers
