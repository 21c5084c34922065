-- `writer_file::write_one` meets its promise: the length is written, and the section after it.
use borrow.Author.Rules.{rules}
use mathlib.Core.Path.{◌≡◌, sym, ap, ◌∙◌}
use mathlib.Core.List.{List}
use Prim.Native.Nat.{ℕ, ◌+◌, ◌≤◌}
use lib.ListN.{length}
use Rattle.std.specs.Prelude.{Ok}
use Rattle.writer_file.specs.Sizes.{size_at, entry_size}
use Rattle.writer_file.proofs.Steps.{Room, not-unspelt, starts-inside, counts, not-unwritten, one_written}
use Rattle.writer_file.proofs.write_one.Goals as goal

-- the size of the section, whose number the code makes wider
sizes : (body : List ℕ) (k : ℕ) {size wide : ℕ} → size ≡ size_at (length body) wide → wide ≡ k → size ≡ size_at (length body) k
sizes body k e q = e ∙ ap (size_at (length body)) q

pub returns-in_err-start-clause-value : goal.returns-in_err-start-clause-value
returns-in_err-start-clause-value c =
    let a = c.requires.not_label_table in
    let r : Room c.args.label c.args.body.now c.args.k c.args.rest.now =
    record { other = a.0; fits = a.1; five = a.2; known = a.3; room = c.requires.k_in_bounds } in
    let is = sizes c.args.body.now c.args.k c.size_at-size.ensures.0 c.from.ensures in
    not-unspelt r is c.write_number.ensures {refusal = c.in_err-start.field-0.0} (sym (search rules))

pub returns-in_err-start-clause-rest_after : goal.returns-in_err-start-clause-rest_after
returns-in_err-start-clause-rest_after c =
    let a = c.requires.not_label_table in
    let r : Room c.args.label c.args.body.now c.args.k c.args.rest.now =
    record { other = a.0; fits = a.1; five = a.2; known = a.3; room = c.requires.k_in_bounds } in
    let is = sizes c.args.body.now c.args.k c.size_at-size.ensures.0 c.from.ensures in
    not-unspelt r is c.write_number.ensures {refusal = c.in_err-start.field-0.0} (sym (search rules))

pub slice_bounds-write_section-count : goal.slice_bounds-write_section-count
slice_bounds-write_section-count c =
    let a = c.requires.not_label_table in
    let r : Room c.args.label c.args.body.now c.args.k c.args.rest.now =
    record { other = a.0; fits = a.1; five = a.2; known = a.3; room = c.requires.k_in_bounds } in
    let is = sizes c.args.body.now c.args.k c.size_at-size.ensures.0 c.from.ensures in
    starts-inside r is c.write_number.ensures (sym (search rules))

pub slice_bounds-write_section-start : goal.slice_bounds-write_section-start
slice_bounds-write_section-start c =
    let a = c.requires.not_label_table in
    let r : Room c.args.label c.args.body.now c.args.k c.args.rest.now =
    record { other = a.0; fits = a.1; five = a.2; known = a.3; room = c.requires.k_in_bounds } in
    let is = sizes c.args.body.now c.args.k c.size_at-size.ensures.0 c.from.ensures in
    let inside : c.in_ok-start.start ≤ length c.write_number.new.out = starts-inside r is c.write_number.ensures (sym (search rules)) in
    search (rules, inside)

pub returns-in_err-count-clause-value : goal.returns-in_err-count-clause-value
returns-in_err-count-clause-value c =
    let a = c.requires.not_label_table in
    let r : Room c.args.label c.args.body.now c.args.k c.args.rest.now =
    record { other = a.0; fits = a.1; five = a.2; known = a.3; room = c.requires.k_in_bounds } in
    let is = sizes c.args.body.now c.args.k c.size_at-size.ensures.0 c.from.ensures in
    not-unwritten r is c.write_number.ensures (sym (search rules)) c.write_section.ensures {refusal = c.in_err-count.field-0.0} (sym (search rules))

pub returns-in_err-count-clause-rest_after : goal.returns-in_err-count-clause-rest_after
returns-in_err-count-clause-rest_after c =
    let a = c.requires.not_label_table in
    let r : Room c.args.label c.args.body.now c.args.k c.args.rest.now =
    record { other = a.0; fits = a.1; five = a.2; known = a.3; room = c.requires.k_in_bounds } in
    let is = sizes c.args.body.now c.args.k c.size_at-size.ensures.0 c.from.ensures in
    not-unwritten r is c.write_number.ensures (sym (search rules)) c.write_section.ensures {refusal = c.in_err-count.field-0.0} (sym (search rules))

pub overflow_add-result : goal.overflow_add-result
overflow_add-result c =
    let a = c.requires.not_label_table in
    let r : Room c.args.label c.args.body.now c.args.k c.args.rest.now =
    record { other = a.0; fits = a.1; five = a.2; known = a.3; room = c.requires.k_in_bounds } in
    let is = sizes c.args.body.now c.args.k c.size_at-size.ensures.0 c.from.ensures in
    let z : c.in_ok-start.start + c.in_ok-count.count ≡ entry_size (size_at (length c.args.body.now) c.args.k) = counts r is c.write_number.ensures (sym (search rules)) c.write_section.ensures (sym (search rules)) in
    let l : entry_size (size_at (length c.args.body.now) c.args.k) ≤ length c.args.rest.now = r.room in
    search rules

pub returns-clause-value : goal.returns-clause-value
returns-clause-value c =
    let a = c.requires.not_label_table in
    let r : Room c.args.label c.args.body.now c.args.k c.args.rest.now =
    record { other = a.0; fits = a.1; five = a.2; known = a.3; room = c.requires.k_in_bounds } in
    let is = sizes c.args.body.now c.args.k c.size_at-size.ensures.0 c.from.ensures in
    ap Ok (counts r is c.write_number.ensures (sym (search rules)) c.write_section.ensures (sym (search rules)))

pub returns-clause-rest_after : goal.returns-clause-rest_after
returns-clause-rest_after c =
    let a = c.requires.not_label_table in
    let r : Room c.args.label c.args.body.now c.args.k c.args.rest.now =
    record { other = a.0; fits = a.1; five = a.2; known = a.3; room = c.requires.k_in_bounds } in
    let is = sizes c.args.body.now c.args.k c.size_at-size.ensures.0 c.from.ensures in
    one_written r is c.write_number.ensures (sym (search rules)) c.write_section.ensures
