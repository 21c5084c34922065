-- `writer::write_section` meets its promise: the section's bytes are cut out of the body and filled in, where they are counted.
use borrow.Author.Rules.{rules}
use mathlib.Core.Path.{◌≡◌, refl, sym, ap, ◌∙◌}
use native.Mathlib.Omega.{arith}
use Prim.Native.Nat.{ℕ, ◌≤◌, ◌*◌, ◌+◌, ◌-◌}
use mathlib.Core.List.{List}
use lib.ListN.{length, take, drop}
use Rattle.std.specs.Prelude.{Ok}
use Rattle.refusal.proofs.Numbers.{handed_on}
use Rattle.writer.specs.Writer.{full, last_of, end_of, body_at, written, count_of}
use Rattle.writer.specs.declared.Label.{Label}
use Rattle.writer.proofs.Laws.{counted-known, uncounted-write, starts-within, span, cut, length-body, length-section, write-41, write-42, write-15, write_done}
use Rattle.writer.proofs.write_section.Goals as goal

-- of a section whose number is at most the last, and that ends at r in the body:
module _ (body : List ℕ) (k r : ℕ) (known : k ≤ last_of (length body)) (e : r ≡ end_of (length body) (full * k)) where
  -- where its body ends
  ends : (full * k ≤ r) × (r ≤ length body) × (r ≤ full * k + full)
  ends = span _ _ _ known e

  -- its bytes, as the code cuts them out
  carried : take (r - full * k) (drop (full * k) body) ≡ body_at body k
  carried = ap (λ r. take (r - full * k) (drop (full * k) body)) e ∙ cut _ _ known

  -- and the section's size
  sized : (label : Label) → length (written label body k) ≡ 8 + (r - full * k)
  unfolding written
  sized label = length-section _ _ _ _ ∙ ap (λ n. 8 + n) (length-body _ _ known ∙ ap (λ r. r - full * k) (sym e))

-- the number is at most the last
below : (label : Label) (body : List ℕ) (count last k : ℕ) → Ok count ≡ count_of label.table (length body) → last ≡ count - 1 → k ≤ last → k ≤ last_of (length body)
below label body count last k e q l = let c : count ≡ last_of (length body) + 1 = (counted-known _ _ count e).2 in omega arith

pub returns-in_err-count : goal.returns-in_err-count
returns-in_err-count c =
    rw (handed_on c.from_residual.result c.from_residual.ensures.1) (uncounted-write c.args.label c.args.body.now c.args.out.now c.args.k _ (search rules))

pub returns-then-label-gt-HIGHEST_VERSION : goal.returns-then-label-gt-HIGHEST_VERSION
returns-then-label-gt-HIGHEST_VERSION c =
    let w = counted-known c.args.label.table (length c.args.body.now) c.in_ok-count.count (search rules) in
    write-41 c.args.label c.args.body.now c.args.out.now c.args.k w.0 w.1 c.if-label-gt-HIGHEST_VERSION.true

pub overflow_sub-last : goal.overflow_sub-last
overflow_sub-last c = omega (arith, (counted-known c.args.label.table (length c.args.body.now) c.in_ok-count.count (search rules)).2)

pub returns-then-last-k : goal.returns-then-last-k
returns-then-last-k c =
    let w = counted-known c.args.label.table (length c.args.body.now) c.in_ok-count.count (search rules) in
    write-42 c.args.label c.args.body.now c.args.out.now c.args.k w.0 w.1 c.if-label-gt-HIGHEST_VERSION.false
    (omega (arith, w.2, c.if-last-k.true))

pub end_of-end-requires : goal.end_of-end-requires
end_of-end-requires c =
    rw c.from-start.ensures
    (starts-within (length c.args.body.now) c.args.k (below c.args.label c.args.body.now c.in_ok-count.count _ c.args.k (search rules) refl c.if-last-k.false))

pub overflow_sub-size : goal.overflow_sub-size
overflow_sub-size c =
    rw c.from-start.ensures
    (ends c.args.body.now c.args.k c.end_of-end.result (below c.args.label c.args.body.now c.in_ok-count.count _ c.args.k (search rules) refl c.if-last-k.false)
    (rw (← c.from-start.ensures) c.end_of-end.ensures)).0

pub returns-then-out-size : goal.returns-then-out-size
returns-then-out-size c =
    let w = counted-known c.args.label.table (length c.args.body.now) c.in_ok-count.count (search rules) in
    let known = below c.args.label c.args.body.now c.in_ok-count.count _ c.args.k (search rules) refl c.if-last-k.false in
    write-15 c.args.label c.args.body.now c.args.out.now c.args.k _ w.0 w.1 c.if-label-gt-HIGHEST_VERSION.false known
    (sized c.args.body.now c.args.k c.end_of-end.result known (rw (← c.from-start.ensures) c.end_of-end.ensures) c.args.label)
    (rw (← c.from-start.ensures) c.if-out-size.true)

pub slice_bounds-fill-count : goal.slice_bounds-fill-count
slice_bounds-fill-count c =
    rw c.from-start.ensures
    (ends c.args.body.now c.args.k c.end_of-end.result (below c.args.label c.args.body.now c.in_ok-count.count _ c.args.k (search rules) refl c.if-last-k.false)
    (rw (← c.from-start.ensures) c.end_of-end.ensures)).0

pub slice_bounds-fill-start : goal.slice_bounds-fill-start
slice_bounds-fill-start c =
    let w =
    ends c.args.body.now c.args.k c.end_of-end.result (below c.args.label c.args.body.now c.in_ok-count.count _ c.args.k (search rules) refl c.if-last-k.false)
    (rw (← c.from-start.ensures) c.end_of-end.ensures) in
    omega (arith, w.1)

pub returns : goal.returns
unfolding written
returns c =
    let a = c.args in
    let w = counted-known a.label.table (length a.body.now) c.in_ok-count.count (search rules) in
    let known = below a.label a.body.now c.in_ok-count.count _ a.k (search rules) refl c.if-last-k.false in
    let end : c.end_of-end.result ≡ end_of (length a.body.now) (full * a.k) = rw (← c.from-start.ensures) c.end_of-end.ensures in
    let last : c.in_ok-count.count - 1 ≡ last_of (length a.body.now) = omega (arith, w.2) in
    rw c.from-start.ensures
    (write_done a.label a.body.now a.out.now a.k _ w.0 w.1 c.if-label-gt-HIGHEST_VERSION.false known
    (sized a.body.now a.k c.end_of-end.result known end a.label) (rw (← c.from-start.ensures) c.if-out-size.false) _
    (c.fill.ensures ∙ rw (c.from-start.ensures, last, carried a.body.now a.k c.end_of-end.result known end)))
