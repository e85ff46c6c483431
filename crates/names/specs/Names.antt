-- The ten bytes of a name and the six of a user, packed as numbers.
-- Assumes nothing.
use Rattle.std.specs.Prelude.{ℕ, List, ◌++◌, drop}
use Rattle.wire.specs.Fields.{be, bytes_of}
use Rattle.wire.specs.declared.kinds.Name.{Name}
use Rattle.wire.specs.declared.kinds.User.{User}

-- Packing shows that packing bytes and laying them out again are inverse to each other
abbrev pub name_bytes : Name → List ℕ
name_bytes n = bytes_of 2 n.0 ++ bytes_of 8 n.1

-- the name that the first ten bytes of s spell
abbrev pub name_of : List ℕ → Name
name_of s = record { 0 = be 2 s; 1 = be 8 (drop 2 s) }

abbrev pub user_bytes : User → List ℕ
user_bytes u = bytes_of 2 u.0 ++ bytes_of 4 u.1

-- the user that the first six bytes of s spell
abbrev pub user_of : List ℕ → User
user_of s = record { 0 = be 2 s; 1 = be 4 (drop 2 s) }
