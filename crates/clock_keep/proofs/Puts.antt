-- Laws on the words of places as they are written.
--   put-start, put-done, keep-step     what the places hold is written again from the front
--   pairs-length                                   how many words places have
--   place-put                                      the words of the place behind those that are held
--   hold-full, hold-words                          one more is held, where there is room
use Rattle.std.specs.Prelude.{if◌then◌else◌}
use mathlib.Core.Path.{◌≡◌, refl, sym, ap, ◌∙◌}
use mathlib.Core.Bool.{Bool, true, false}
use mathlib.Core.List.{List, [], ◌∷◌, ◌++◌, append_assoc, append-nil}
use Prim.Native.Nat.{ℕ, zero, suc, ◌+◌, ◌*◌, ◌%◌, ◌<◌, ◌≤◌}
use native.Mathlib.Numerals.{add-one}
use native.Mathlib.Omega.{arith}
use lib.Dec.{ltb}
use lib.ListN.{length, take, get_or, set, length-take, length-set, length-append, get_or-eq_default}
use lib.Seq.{take-suc-set, take_all, get_or-take, length-take-le}
use borrow.Author.Tests.{ltb-true, ltb-false, le-leb, lt-leb}
use Rattle.base.proofs.Cases.{by}
use Rattle.clock_activation.specs.declared.Held.{Held}
use Rattle.clock_activation.specs.Activation.{nobody}
use Rattle.clock_activation.specs.Places.{held_in, mark_of}
use Rattle.clock_activation.proofs.Places.{marked}
use Rattle.clock_record.specs.Words.{word_at, in_place, helds_in, pairs, words_with}
use Rattle.clock_record.proofs.Back.{places}
use Rattle.clock_record.proofs.Places.{place_at_lem}
use Rattle.clock_keep.specs.Hold.{holding}

pub one-there : (n i : ℕ) (held : List Held) → (if ltb i n then get_or held i nobody else nobody) ≡ get_or (take n held) i nobody
one-there n i held =
    by (ltb i n)
    (λ t. rw t (sym (get_or-take n held i nobody (ltb-true i n t))))
    (λ f. rw f
    (sym
    (get_or-eq_default (take n held) nobody
    (let h : n ≤ i = ltb-false i n f in simp length-take (omega arith)))))

pub pairs-none : (hs : List Held) → pairs 0 hs ≡ []
unfolding pairs
pairs-none hs = refl

pub pairs-more : (i : ℕ) (hs : List Held)
    → pairs (suc i) hs ≡ pairs i hs ++ ((get_or hs i nobody).activation.time ∷ mark_of (get_or hs i nobody) ∷ [])
unfolding pairs mark_of
pairs-more zero [] = refl
pairs-more zero (h ∷ hs) = refl
pairs-more (suc i) [] = ap (λ (l : List ℕ). 0 ∷ 0 ∷ l) (pairs-more i [])
pairs-more (suc i) (h ∷ hs) = ap (λ (l : List ℕ). h.activation.time ∷ mark_of h ∷ l) (pairs-more i hs)

-- two stores behind what stands
two-more : (l : List ℕ) (k a b : ℕ) → k + 1 < length l → take (k + 2) (set (set l k a) (k + 1) b) ≡ take k l ++ (a ∷ b ∷ [])
two-more l k a b h =
    let e : k + 2 ≡ suc (k + 1) = omega arith in
    let f : k + 1 ≡ suc k = add-one k in
    let g : k + 1 < length (set l k a) = simp length-set h in
    ap (λ (n : ℕ). take n (set (set l k a) (k + 1) b)) e
    ∙ take-suc-set (set l k a) (k + 1) b g
    ∙ ap (λ (n : ℕ). take n (set l k a) ++ (b ∷ [])) f
    ∙ ap (λ (t : List ℕ). t ++ (b ∷ [])) (take-suc-set l k a (omega arith))
    ∙ append_assoc (take k l) (a ∷ []) (b ∷ [])

module _ (w l : List ℕ) (hs : List Held) where
  pub put-start : take (3 + 2 * 0) w ≡ take 3 w ++ pairs 0 hs
  put-start = rw pairs-none (sym (append-nil (take 3 w)))

  module _ (i : ℕ) (long : length l ≡ 67) (so : take (3 + 2 * i) l ≡ take 3 w ++ pairs i hs) where
    pub put-more : (h : Held) → i < 32 → h ≡ get_or hs i nobody
        → take (3 + 2 * (i + 1)) (set (set l (3 + 2 * i) h.activation.time) (4 + 2 * i) (mark_of h)) ≡ take 3 w ++ pairs (i + 1) hs
    put-more h b p =
        let k : 3 + 2 * (i + 1) ≡ 3 + 2 * i + 2 = omega arith in
        let m : 4 + 2 * i ≡ 3 + 2 * i + 1 = omega arith in
        let next : pairs (i + 1) hs ≡ pairs i hs ++ (h.activation.time ∷ mark_of h ∷ []) = rw (p, add-one) (pairs-more i hs) in
        rw (k, m)
        (two-more l (3 + 2 * i) h.activation.time (mark_of h) (omega arith)
        ∙ ap (λ (t : List ℕ). t ++ (h.activation.time ∷ mark_of h ∷ [])) so
        ∙ append_assoc (take 3 w) (pairs i hs) (h.activation.time ∷ mark_of h ∷ [])
        ∙ ap (λ (t : List ℕ). take 3 w ++ t) (sym next))

    pub put-done : i ≡ 32 → l ≡ take 3 w ++ pairs 32 hs
    put-done z = sym (take_all 67 l (omega arith)) ∙ rw z at so

time-there : (there : Bool) (time second : ℕ)
    → (if there then time else 0) ≡ (if there then held_in time second else nobody).activation.time
unfolding held_in
time-there true time second = refl
time-there false time second = refl

nothing-marked : 0 ≡ mark_of nobody
unfolding mark_of
nothing-marked = refl

mark-there : (there : Bool) (time second : ℕ)
    → (if there then second % 134217728 else 0) ≡ mark_of (if there then held_in time second else nobody)
mark-there true time second = sym (marked time second)
mark-there false time second = nothing-marked

module _ (w l : List ℕ) (n i : ℕ) (long : length l ≡ 67) (few : i < 32)
    (so : take (3 + 2 * i) l ≡ take 3 w ++ pairs i (take n (helds_in w))) where
  -- what stands at the place in the end
  abbrev one : Held
  one = if ltb i n then in_place w i else nobody

  is_one_lem : one ≡ get_or (take n (helds_in w)) i nobody
  is_one_lem =
      ap (λ (h : Held). if ltb i n then h else nobody) (sym (place_at_lem w i few))
      ∙ one-there n i (helds_in w)

  pub keep-step : (t s : ℕ) → t ≡ (if ltb i n then word_at w (3 + 2 * i) else 0) → s ≡ (if ltb i n then word_at w (4 + 2 * i) % 134217728 else 0)
      → take (3 + 2 * (i + 1)) (set (set l (3 + 2 * i) t) (4 + 2 * i) s) ≡ take 3 w ++ pairs (i + 1) (take n (helds_in w))
  keep-step t s p q =
      let x : t ≡ one.activation.time =
      p ∙ time-there (ltb i n) (word_at w (3 + 2 * i)) (word_at w (4 + 2 * i)) in
      let y : s ≡ mark_of one =
      q ∙ mark-there (ltb i n) (word_at w (3 + 2 * i)) (word_at w (4 + 2 * i)) in
      rw (x, y) (put-more w l (take n (helds_in w)) i long so one few is_one_lem)

-- the pair behind what is held
pair_set : (m : ℕ) (hs : List Held) (h : Held) → length hs < m
    → set (set (pairs m hs) (2 * length hs) h.activation.time) (suc (2 * length hs)) (mark_of h) ≡ pairs m (hs ++ (h ∷ []))
unfolding pairs
pair_set zero hs h b = absurd (omega arith)
pair_set (suc m) [] h b = refl
pair_set (suc m) (x ∷ hs) h b =
    let e : 2 * suc (length hs) ≡ suc (suc (2 * length hs)) = omega arith in
    rw e (ap (λ (l : List ℕ). x.activation.time ∷ mark_of x ∷ l) (pair_set m hs h (omega arith)))

front : (w : List ℕ) → length w ≡ 67 → take 3 w ≡ word_at w 0 ∷ word_at w 1 ∷ word_at w 2 ∷ []
front (a ∷ b ∷ c ∷ w) e = refl
front [] e = absurd (omega arith)
front (a ∷ []) e = absurd (omega arith)
front (a ∷ b ∷ []) e = absurd (omega arith)

pub pairs-length : (n : ℕ) (hs : List Held) → length (pairs n hs) ≡ 2 * n
unfolding pairs
pairs-length zero hs = refl
pairs-length (suc n) [] = let e = pairs-length n [] in omega arith
pairs-length (suc n) (h ∷ hs) = let e = pairs-length n hs in omega arith

module _ (a b c : ℕ) (hs : List Held) (h : Held) (n : ℕ) (many : n ≡ length hs) (few : n < 32) where
  -- the two words of the place behind those that are held
  pub place-put : set (set (a ∷ b ∷ c ∷ pairs 32 hs) (3 + 2 * n) h.activation.time) (4 + 2 * n) (mark_of h)
      ≡ a ∷ b ∷ c ∷ pairs 32 (hs ++ (h ∷ []))
  place-put =
      let e : 3 + 2 * n ≡ suc (suc (suc (2 * length hs))) = omega arith in
      let g : 4 + 2 * n ≡ suc (suc (suc (suc (2 * length hs)))) = omega arith in
      rw (e, g) (ap (λ (l : List ℕ). a ∷ b ∷ c ∷ l) (pair_set 32 hs h (omega arith)))

pub hold-full : (w : List ℕ) (states : ℕ) (h : Held) (n : ℕ) → n ≡ word_at w 2 → 32 ≤ n → w ≡ holding states h w
unfolding holding
hold-full w states h n e t = rw (le-leb 32 (word_at w 2) (rw e at t))

pub hold-words : (w : List ℕ) (states : ℕ) (h : Held) (n m : ℕ) (l : List ℕ) → length w ≡ 67 → n ≡ word_at w 2 → n < 32 → m ≡ mark_of h
    → l ≡ take 3 w ++ pairs 32 (take n (helds_in w))
    → set (set (set (set l 1 states) 2 (n + 1)) (3 + 2 * n) h.activation.time) (4 + 2 * n) m ≡ holding states h w
unfolding holding words_with
hold-words w states h n m l z e b k so =
    let many : n ≡ length (take n (helds_in w)) = (let p = places w in sym (length-take-le n (helds_in w) (omega arith))) in
    let more : n + 1 ≡ length (take n (helds_in w) ++ (h ∷ [])) = simp length-append (omega arith) in
    rw (lt-leb 32 (word_at w 2) (rw e at b), so, front w z, k, ← e)
    (place-put (word_at w 0) states (n + 1) (take n (helds_in w)) h n many b
    ∙ ap (λ (k : ℕ). word_at w 0 ∷ states ∷ k ∷ pairs 32 (take n (helds_in w) ++ (h ∷ []))) more)
