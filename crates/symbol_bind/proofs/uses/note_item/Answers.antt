use Rattle.std.proofs.Common.{◌≡◌, w32, to_z, of_z, rules}
use Rattle.std.proofs.lemmas.Int.{to_z-of_z}
use Rattle.symbol_bind.proofs.uses.note_item.Goals as goal

pub returns-in-Addr-clause-open : goal.returns-in-Addr-clause-open
returns-in-Addr-clause-open g c = λ us old.
    let same_offset : to_z w32 (of_z w32 c.in-Addr.offset) ≡ c.in-Addr.offset = search (rules, to_z-of_z) in
    rw (c.in-Addr.is, ← c.resolve-key.ensures, ← c.loaded_word-word.ensures) (rw same_offset at (c.note_data.ensures.open us old))
