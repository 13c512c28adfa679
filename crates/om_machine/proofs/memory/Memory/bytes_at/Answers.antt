use Rattle.std.proofs.Common.{◌≤◌, length, arith}
use Rattle.om_machine.specs.Mapped.{Mapped}
use Rattle.om_machine.proofs.Ranges.{data_range, stack_range, heap_range}
use Rattle.om_machine.proofs.memory.Memory.bytes_at.Goals as goal

pub returns-in-Some-Data-clause-value : goal.returns-in-Some-Data-clause-value
returns-in-Some-Data-clause-value c =
    let m : Mapped = record { bytes = c.self.inside.bytes.items; stack = c.self.inside.stack.items; heap = c.self.inside.heap.items; heap_size = c.self.inside.heap_size } in
    let p = rw (← c.self.view_is, c.in-Some-Data.field-0-is) at c.in-Some-Data.ensures.found in
    rw (c.deref.ensures.value, ← c.self.view_is) (data_range m c.args.address c.args.n c.in-Some-Data.at c.self.invariant.data_fits p)

pub returns-in-Some-Stack-clause-value : goal.returns-in-Some-Stack-clause-value
returns-in-Some-Stack-clause-value c =
    let m : Mapped = record { bytes = c.self.inside.bytes.items; stack = c.self.inside.stack.items; heap = c.self.inside.heap.items; heap_size = c.self.inside.heap_size } in
    let p = rw (← c.self.view_is, c.in-Some-Stack.field-0-is) at c.in-Some-Stack.ensures.found in
    rw (c.deref-in-Some-Stack.ensures.value, ← c.self.view_is) (stack_range m c.args.address c.args.n c.in-Some-Stack.at c.self.invariant.stack_fits p)

pub returns-in-Some-Heap-clause-value : goal.returns-in-Some-Heap-clause-value
returns-in-Some-Heap-clause-value c =
    let m : Mapped = record { bytes = c.self.inside.bytes.items; stack = c.self.inside.stack.items; heap = c.self.inside.heap.items; heap_size = c.self.inside.heap_size } in
    let p = rw (← c.self.view_is, c.in-Some-Heap.field-0-is) at c.in-Some-Heap.ensures.found in
    let fits : c.self.inside.heap_size ≤ length c.self.inside.heap.items =
    omega (arith, c.self.invariant.size_fits, c.self.invariant.heap_fits) in
    rw (c.deref-in-Some-Heap.ensures.value, ← c.self.view_is) (heap_range m c.args.address c.args.n c.in-Some-Heap.at fits p)
