mod Alike
mod Migrations
mod VersionTwo
