-- A list of declarations, as it is seen, at a place.
use Rattle.std.proofs.Common.{◌≡◌, ℕ, ◌<◌, List, length, get_or, map, sym, ap, ◌∙◌}
use Rattle.std.proofs.lemmas.List.{get_or-map, length-map}
use Rattle.asm_program.specs.declared.declared.Declared.{Declared}
use Rattle.asm_program.specs.Seen.{declaration_seen}

pub seen_at : (list : List Declared) (i : ℕ) (x : Declared) → i < length list → x ≡ get_or list i x
    → get_or (map declaration_seen list) i (declaration_seen x) ≡ declaration_seen x
seen_at list i x lt is = get_or-map declaration_seen list i x (declaration_seen x) lt ∙ ap declaration_seen (sym is)

pub seen_length : (list : List Declared) → length (map declaration_seen list) ≡ length list
seen_length list = length-map list declaration_seen
