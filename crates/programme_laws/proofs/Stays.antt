-- What stands behind an item has no part in it (`specs/Theorems.antt` has the words).
--   stays
use mathlib.Core.Path.{◌≡◌, sym, ap, ◌∙◌}
use mathlib.Core.List.{List, ◌++◌}
use Prim.Native.Nat.{ℕ, ◌+◌, ◌-◌, ◌≤◌}
use native.Mathlib.Omega.{arith}
use lib.ListN.{length, take, drop, length-take, length-drop, take-append-drop}
use lib.Seq.{take-append_seam}
use Rattle.base.specs.Bytes.{part}
use Rattle.std.specs.Prelude.{Ok, Some}
use Rattle.programme.specs.Table.{content_descriptors_at}
use Rattle.programme.specs.Reading.{programme_of, item_at, step_of}
use Rattle.programme.specs.declared.Item.{Item}
use Rattle.programme.proofs.Items as items
use Rattle.programme_laws.specs.Layout.{content_then, content_bytes, item_in}
use Rattle.programme_laws.specs.Theorems.{Stays}
use Rattle.programme_laws.proofs.From.{From}
use Rattle.programme_laws.proofs.Contents.{content-split, item-written, item-found}
use Rattle.programme_laws.proofs.ExactlyWhen.{begun-reads, step_exactly}
use Rattle.programme_laws.proofs.Walks.{step-stands}

pub stays : (s t : List ℕ) → Stays s t
stays s t b v w at k j i e same below =
    let x = step-stands s at k i e in
    let late : 17 ≤ at = x.late in
    let fits : content_descriptors_at s at ≤ length s = x.fits in
    let low : content_descriptors_at s at ≤ x.end = x.low in
    let high : x.end ≤ length s = x.high in
    let next : i.next ≡ x.end = ap (λ (y : Item). y.next) x.says in
    let c = item-found s b at fits x.end x.run in
    let here : From s at (content_then c.content (drop x.end s)) = record { rest = c.bytes; within = omega arith } in
    let there : step_of s at k ≡ item_at s at
    = sym (items.step-item s at k (programme_of s) (begun-reads s v) ((step_exactly s at k i).0 e).1) in
    let is : i ≡ item_in at c.content
    = (let q : Ok (Some i) ≡ Ok (Some (item_in at c.content)) = sym e ∙ there ∙ item-written c.content c.fits _ here late in cc) in
    let n : ℕ = length (content_bytes c.content) in
    let size : i.next ≡ at + n = ap (λ (y : Item). y.next) is in
    let count : i.next - at ≡ n = omega arith in
    let bytes : part t at n ≡ content_bytes c.content
    = (let of : part s at n ≡ content_bytes c.content
    = ap (take n) (c.bytes ∙ content-split c.content (drop x.end s)) ∙ take-append_seam (content_bytes c.content) (drop x.end s) in
    ap (part t at) (sym count) ∙ sym same ∙ ap (part s at) count ∙ of) in
    let long : at ≤ length t
    = (let lengths : length (part t at n) ≡ n = ap length bytes in
    omega (arith, length-take n (drop at t), length-drop at t)) in
    let stands : From t at (content_then c.content (drop n (drop at t)))
    = record {
      rest =
          sym (take-append-drop n (drop at t))
          ∙ ap (λ l. l ++ drop n (drop at t)) bytes
          ∙ sym (content-split c.content (drop n (drop at t)));
      within = long;
    } in
    sym (items.step-item t at j (programme_of t) (begun-reads t w) below)
    ∙ item-written c.content c.fits _ stands late
    ∙ ap (λ i. Ok (Some i)) (sym is)
