-- Lists of bytes as `CallBytes` keeps them: at most eight, of 524,288 bytes together.
use Rattle.std.specs.Prelude.{ℕ, List, [], ◌∷◌}
use Rattle.call_bytes.specs.CallLists.{opened, more}

-- bytes more in the last list
abbrev pub more_bytes : List (List ℕ) → List ℕ → List (List ℕ)
more_bytes lists [] = lists
more_bytes lists (b ∷ bs) = more_bytes (more lists b) bs

-- a list more
abbrev pub kept_list : List (List ℕ) → List ℕ → List (List ℕ)
kept_list lists bs = more_bytes (opened lists) bs

-- lists more
abbrev pub kept_lists : List (List ℕ) → List (List ℕ) → List (List ℕ)
kept_lists lists [] = lists
kept_lists lists (bs ∷ bss) = kept_lists (kept_list lists bs) bss
