-- What the versions of the profiles have.
use Rattle.std.specs.Prelude.{ℕ, Bool, nat_le}

-- from version 2 on signatures have buffers, and replies the bytes that fill them
abbrev pub has_buffers : ℕ → Bool
has_buffers version = nat_le 2 version
