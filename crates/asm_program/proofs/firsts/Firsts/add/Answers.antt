use Rattle.std.proofs.Common.{◌≡◌, ◌∙◌, cond, ap, Some, is_some}
use Rattle.std.specs.BTreeMap.{insert_entry}
use Rattle.std.specs.Map.{lookup}
use Rattle.std.specs.Ordering.{is_eq}
use Rattle.std.specs.Str.{bytes_eq}
use Rattle.link_model.specs.Program.{name_of}
use Rattle.asm_program.specs.declared.codes.CodedName.{CodedName}
use Rattle.asm_program.specs.Seen.{declaration_seen, named}
use Rattle.asm_program.proofs.CodedNames.{text_order}
use Rattle.asm_program.proofs.FirstNames.{insert_seen, insert_new, keep_old, found_is}
use Rattle.asm_program.proofs.firsts.Firsts.add.Goals as goal

pub returns-in_ok-insert : goal.returns-in_ok-insert
returns-in_ok-insert c = λ v.
    let d = declaration_seen c.args.d.now in let entries = c.self.inside.kept.entries in let n : CodedName = c.new-coded.result in
    let text : n.name.now ≡ name_of d = c.new-coded.ensures ∙ (c.bytes-name.ensures.text ∙ c.name.ensures) in
    ap (λ es. lookup (bytes_eq v) (named es)) c.in_ok-insert.ensures.entries
    ∙ ((λ i. lookup (bytes_eq v) (named (insert_entry (text_order i) entries n c.args.d.now)))
    ∙ (insert_seen v entries n c.args.d.now
    ∙ ((λ i. cond (bytes_eq v (text i)) (Some d) (lookup (bytes_eq v) (c.self.view_is i)))
    ∙ insert_new v (name_of d) d c.args.self.now
    (found_is n.name.now (name_of d) entries c.args.self.now c.contains_key.result
    (c.contains_key.ensures ∙ (λ i. is_some (lookup (λ (y : CodedName). is_eq (text_order i n y)) entries))) c.self.view_is text
    ∙ c.if-not-contains_key.true))))

pub returns-else-not-contains_key : goal.returns-else-not-contains_key
returns-else-not-contains_key c = λ v.
    let d = declaration_seen c.args.d.now in let entries = c.self.inside.kept.entries in let n : CodedName = c.new-coded.result in
    let text : n.name.now ≡ name_of d = c.new-coded.ensures ∙ (c.bytes-name.ensures.text ∙ c.name.ensures) in
    keep_old v (name_of d) d c.args.self.now
    (found_is n.name.now (name_of d) entries c.args.self.now c.contains_key.result
    (c.contains_key.ensures ∙ (λ i. is_some (lookup (λ (y : CodedName). is_eq (text_order i n y)) entries))) c.self.view_is text
    ∙ c.if-not-contains_key.false)
