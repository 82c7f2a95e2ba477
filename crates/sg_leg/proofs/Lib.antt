mod AddedLines
mod Agreed
mod Agreeing
mod Answered
mod Described
mod FewKeys
mod Fresh
mod Gives
pub mod Grown
mod Installs
mod Kept
mod Made
mod NotedMessages
mod Opened
mod Planning
mod Read
mod Replied
