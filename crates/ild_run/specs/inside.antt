pub mod Made
pub mod Moved
pub mod Answered
pub mod Matched
pub mod Weighed
pub mod Headed
pub mod Sought
pub mod Carried
