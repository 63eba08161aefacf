pub mod Needs
pub mod PacketTurns
pub mod OctetTurns
pub mod BeginTurns
