mod AddedParts
mod Comes
mod Streams
