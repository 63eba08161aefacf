pub mod Needs
pub mod Packets
pub mod PacketLaws
