use Rattle.std.proofs.Common.{◌≡◌, ◌∙◌, ◌+◌, ℕ, List, ap, sym}
use Rattle.std.specs.Map.{lookup}
use Rattle.asm_program.specs.Scopes.{is_same}
use Rattle.linked_program.specs.Linked.{resolve_global}
use Rattle.linked_program.proofs.Meanings.{resolve_static, resolve_other}
use Rattle.linked_program.proofs.Opened.{opened}
use Rattle.linked_program.proofs.program.Program.resolve.Goals as goal

abbrev Scoped : Type 0
Scoped = ℕ × List ℕ

pub returns-in-Some : goal.returns-in-Some
returns-in-Some c =
    let o = opened c.self.inside c.args.self.now c.self.view_is c.self.invariant in
    let u = c.args.unit in let n = c.args.name.now in
    let asked : Scoped = (c.from.result + 1, c.bytes-bytes.result.now) in
    let same : asked ≡ (u + 1, n) = λ j. (c.from.ensures j + 1, c.bytes-bytes.ensures.text j) in
    resolve_static c.args.self.now.units u n c.in-Some.k
    (sym c.in-Some.is ∙ (c.get.ensures ∙ (ap (λ q. lookup (is_same q) c.self.inside.numbers) same ∙ o.names (u + 1, n))))

pub returns-in-None : goal.returns-in-None
returns-in-None c =
    let o = opened c.self.inside c.args.self.now c.self.view_is c.self.invariant in
    let u = c.args.unit in let n = c.args.name.now in
    let asked : Scoped = (c.from.result + 1, c.bytes-bytes.result.now) in
    let same : asked ≡ (u + 1, n) = λ j. (c.from.ensures j + 1, c.bytes-bytes.ensures.text j) in
    c.global.ensures
    ∙ (ap (resolve_global c.args.self.now.units u) c.bytes-bytes.ensures.text
    ∙ resolve_other c.args.self.now.units u n
    (sym c.in-None.is ∙ (c.get.ensures ∙ (ap (λ q. lookup (is_same q) c.self.inside.numbers) same ∙ o.names (u + 1, n)))))
