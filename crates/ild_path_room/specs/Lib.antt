pub mod Room
pub mod RoomLaws
pub mod Hole
pub mod ValueSlot
