mod OneCommand
mod Settings
