-- Names in their scopes. Two declarations are of one key exactly where their names are the same in the same scope.
use Rattle.std.specs.Prelude.{ℕ, ◌+◌, Bool, ◌&&◌, ◌==◌, List, if◌then◌else◌}
use Rattle.std.specs.Str.{bytes_eq}
use Rattle.link_model.specs.Program.{Declaration, name_of, is_static}

-- 0 for a global name, else one more than the number of the unit
abbrev pub scope_of : Declaration → ℕ
scope_of d = if is_static d then d.unit + 1 else 0

abbrev pub scoped_name : Declaration → ℕ × List ℕ
scoped_name d = (scope_of d, name_of d)

abbrev pub is_same : ℕ × List ℕ → ℕ × List ℕ → Bool
is_same p q = p.0 == q.0 && bytes_eq p.1 q.1

-- the declaration has this name in this scope
abbrev pub is_of : ℕ × List ℕ → Declaration → Bool
is_of q d = is_same q (scoped_name d)
