use Rattle.std.proofs.Common.{◌≡◌, ◌-◌, ℕ, List, Option, ap, sym, subst, ◌∙◌}
use Rattle.std.specs.Prelude.{IfOk, replicate, unwrap_or}
use Rattle.word_ops.specs.Ranges.{Extent}
use Rattle.image_model.specs.Image.{Segment}
use Rattle.link_model.specs.Binding.{key_address}
use Rattle.link_model.specs.Numbers.{entry_key}
use Rattle.flat_mem.specs.Built.{built}
use Rattle.ppc_machine.specs.declared.externals.External.{External}
use Rattle.ppc_machine.specs.Externals.{external_at}
use Rattle.ppc_machine.specs.Starts.{first_file, first_memory}
use Rattle.ppc_machine.specs.State.{FlatCpu, FlatState, state}
use Rattle.machine_model.specs.FlatRuns.{flat_run, outside}
use Rattle.machine_runs.specs.Traces.{flat_trace, stack_size}
use Rattle.machine_runs.proofs.image_run.run_image.Goals as goal

pub returns : goal.returns
returns c =
    let layout = c.args.layout.now in
    let bs = c.args.addresses.now in
    let replies = c.args.replies.now in
    let cpu = c.start-cpu.ensures.processor in
    let ext : external_at c.in_ok-ext.ext ≡ outside c.args.program.now bs = λ i. λ a. c.in_ok-ext.ensures a i in
    let lo = ap (λ (x : Extent). x.lo) c.stack-stack.ensures.value in
    let size = ap (λ (x : Extent). x.hi - x.lo) c.stack-stack.ensures.value in
    let bytes = c.deref.ensures.value ∙ (c.in_ok-held.ensures ∙ ap (λ n. replicate n c.args.stack_byte) size) in
    let mem : c.start-cpu.new.mem ≡ first_memory layout (built c.args.view.now layout.stack.lo
    (replicate (stack_size layout) c.args.stack_byte)) =
    c.start-cpu.ensures.memory
    ∙ ap (first_memory layout) (c.in_ok-mem.ensures.value ∙ (ap (λ n. built c.args.view.now n c.deref.result.now) lo
    ∙ ap (built c.args.view.now layout.stack.lo) bytes)) in
    let entry : c.key_address-entry.result ≡ key_address bs (unwrap_or (entry_key c.args.program.now.units c.args.program.now.entry) 0) =
    c.key_address-entry.ensures ∙ sym (ap (λ o. key_address bs (unwrap_or o 0)) c.entry_key.ensures) in
    let first : ℕ → List Segment → FlatState = λ pc m. record { file = first_file layout c.args.junk.now; pc = pc; mem = m } in
    let P : FlatCpu → Type 0 = λ x. IfOk c.trace_from.result (λ t. t ≡ flat_trace (λ m. flat_run x.stop (external_at c.in_ok-ext.ext) m
    (state x.processor c.start-cpu.new.mem) replies) c.args.steps) in
    let Q : (ℕ → Option External) → Type 0 = λ out. IfOk c.trace_from.result (λ t. t ≡ flat_trace
    (λ m. flat_run layout.stop out m (first c.key_address-entry.result c.start-cpu.new.mem) replies) c.args.steps) in
    let R : List Segment → Type 0 = λ x. IfOk c.trace_from.result (λ t. t ≡ flat_trace (λ m. flat_run layout.stop
    (outside c.args.program.now bs) m (first c.key_address-entry.result x) replies) c.args.steps) in
    let S : ℕ → Type 0 = λ pc. IfOk c.trace_from.result (λ t. t
    ≡ flat_trace (λ m. flat_run layout.stop (outside c.args.program.now bs) m (first pc (first_memory layout
    (built c.args.view.now layout.stack.lo (replicate (stack_size layout) c.args.stack_byte)))) replies) c.args.steps) in
    subst S entry (subst R mem (subst Q ext (subst P cpu c.trace_from.ensures)))
