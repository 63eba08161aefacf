-- What the functions ask of their arguments.
use Rattle.std.specs.Prelude.{◌≡◌, true, List, ℕ, ◌*◌, ◌<◌, ◌≤◌, length}
use Rattle.tlv.specs.Packets.{packets_ok}

pub record LayNeeds (packets : List ℕ) (taken owed : ℕ) (slots : List ℕ) : Type 0 where
  pub within : taken ≤ length packets
  pub few : owed ≤ 3
  pub room : owed ≤ length slots

pub record MarkNeeds (D : ℕ) (packets : List ℕ) (taken owed : ℕ) (begins : List ℕ) : Type 0 where
  pub right : packets_ok packets ≡ true
  pub low : 16 ≤ D
  pub high : D ≤ 65535
  pub within : taken ≤ length packets
  pub few : owed ≤ 3
  pub room : D * length begins < 9223372036854775808
