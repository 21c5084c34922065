-- As few sections as will do.
--   all_full      every body but the last is full
--   bodies_join   the bodies of all the sections, joined, are the given body
--   fewest        no list of bodies of at most 1,016 bytes that joins to the given body has fewer members
use mathlib.Core.Path.{◌≡◌, refl, sym, ap, ◌∙◌}
use mathlib.Core.List.{List, [], ◌∷◌, ◌++◌, append-nil}
use Prim.Native.Nat.{ℕ, zero, suc, ◌+◌, ◌-◌, ◌*◌, ◌/◌, ◌≤◌}
use native.Mathlib.Omega.{arith}
use lib.ListN.{length, take, drop, length-append, length-drop, drop_of_length-le, take-append-drop}
use lib.Seq.{length-take-le, take-add}
use Rattle.writer.specs.Writer.{full, last_of, body_at}
pub use Rattle.writer.specs.Theorems.{first_bodies}
use Rattle.writer.specs.Theorems.{joined, EachAtMost, AllFull, BodiesJoin, Fewest}

pub all_full : (body : List ℕ) → AllFull body
unfolding body_at last_of
all_full body k h = length-take-le full (drop (full * k) body) (rw length-drop (omega arith))

-- the first n bodies are the first bytes of the body
pub first-bodies : (body : List ℕ) (n : ℕ) → first_bodies body n ≡ take (full * n) body
unfolding body_at
first-bodies body zero = refl
first-bodies body (suc n) =
    let e : full * n + full ≡ full * suc n = omega arith in
    rw (first-bodies body n) (sym (take-add (full * n) full body) ∙ ap (λ k. take k body) e)

pub bodies_join : (body : List ℕ) → BodiesJoin body
unfolding last_of
bodies_join body =
    let n = (length body - 1) / full + 1 in
    let long : length body ≤ full * n = omega arith in
    first-bodies body n
    ∙ sym (append-nil (take (full * n) body))
    ∙ ap (λ r. take (full * n) body ++ r) (sym (drop_of_length-le body {i = full * n} long))
    ∙ take-append-drop (full * n) body

carries : (bs : List (List ℕ)) → EachAtMost full bs → length (joined bs) ≤ full * length bs
carries [] h = omega arith
carries (b ∷ bs) h =
    let ih : length (joined bs) ≤ full * length bs = carries bs h.1 in
    let l : length b ≤ full = h.0 in
    rw length-append (omega arith)

pub fewest : (body : List ℕ) → Fewest body
unfolding last_of
fewest body b bs h e =
    let c : length (joined (b ∷ bs)) ≤ full * length (b ∷ bs) = carries (b ∷ bs) h in
    let l : length (joined (b ∷ bs)) ≡ length body = ap length e in
    omega arith
