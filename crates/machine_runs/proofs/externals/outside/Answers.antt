use Rattle.std.proofs.Common.{◌≡◌, ◌+◌, ℕ, Option, Some, ap, ◌∙◌, arith}
use Rattle.std.specs.Prelude.{slice_get}
use Rattle.std.specs.List.{enumerate_from}
use Rattle.std.proofs.lemmas.List.{take_all}
use Rattle.std.proofs.lemmas.List.FromFn.{length-enumerate_from}
use Rattle.ordered_tests.proofs.Lists.{number_get}
use Rattle.elf_view.proofs.ByAddressLemmas.{take_one}
use Rattle.link_model.specs.Program.{Declaration, keys}
use Rattle.name_addresses.specs.Keys.{declared}
use Rattle.machine_runs.proofs.Outsides.{first_at, next_key}
use Rattle.machine_runs.proofs.externals.outside.Goals as goal

pub loop-k-preserved : goal.loop-k-preserved
loop-k-preserved c =
    let ds = keys c.args.program.now.units in
    let ks = enumerate_from 0 ds in
    let zero_plus : 0 + c.loop-k.k ≡ c.loop-k.k = omega arith in
    let d : Declaration = declared c.key-key.result in
    let numbered : ℕ → Option (ℕ × Declaration) = λ j. Some (j, d) in
    let here : slice_get ks c.loop-k.k ≡ Some (c.loop-k.k, d) = number_get 0 ds c.loop-k.k d c.key-key.ensures.declared
    ∙ ap numbered zero_plus in
    next_key c.args.addresses.now ks c.loop-k.k (c.loop-k.k, declared c.key-key.result) c.loop-k.table c.add_key.new.table
    (take_one ks c.loop-k.k (c.loop-k.k, declared c.key-key.result) here) c.loop-k.invariant c.in_ok-add_key.ensures

pub returns : goal.returns
returns c =
    let ds = keys c.args.program.now.units in
    let ks = enumerate_from 0 ds in
    let count = length-enumerate_from 0 ds in
    let all = take_all c.loop-k.k ks (omega (arith, count, c.loop-k-test.false, c.key_count-k-end.ensures.count)) in
    λ a. c.loop-k.invariant a ∙ ap (first_at c.args.addresses.now a) all
