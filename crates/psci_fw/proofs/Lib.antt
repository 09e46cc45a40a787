mod Answered
mod Refused
mod LifeRows
mod Opened
mod ReactionRows
mod SavedRows
mod SeenRows
