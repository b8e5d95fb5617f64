use Rattle.std.proofs.Common.{map, ap, ◌∙◌}
use Rattle.std.specs.Prelude.{not, string_bytes}
use Rattle.json_tree.proofs.NameSets.{any_text, map_insert, taken_with}
use Rattle.json_tree.proofs.taken.Taken.take.Goals as goal

pub returns-clause-free : goal.returns-clause-free
returns-clause-free c =
    rw (← c.self.view_is, ← c.in_ok-from_str.ensures.ok)
    (c.in_ok-free.ensures.added ∙ ap not (any_text c.self.inside.names.keys (string_bytes c.in_ok-from_str.field-0)))

taken_now : goal.returns-clause-taken
taken_now c =
    rw (← c.self.view_is, ← c.in_ok-from_str.ensures.ok)
    (ap (λ keys. map string_bytes keys) c.in_ok-free.ensures.keys ∙ map_insert c.self.inside.names.keys c.in_ok-from_str.field-0)

pub returns-clause-taken : goal.returns-clause-taken
returns-clause-taken c = taken_now c

pub returns-clause-members : goal.returns-clause-members
returns-clause-members c = λ bytes. rw (taken_now c) (taken_with c.args.self.now c.args.name.now bytes)
