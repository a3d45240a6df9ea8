mod Refusing
mod OneWalks
