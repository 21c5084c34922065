-- What words say, and the words of what a record says.
--   Sized, sized   any words say eight states and at most 32 held, each with numbers of its widths
--   back           what the words of such a record say is the record, where it does not claim over 32
use mathlib.Core.Path.{◌≡◌, refl, ◌∙◌}
use mathlib.Core.Bool.{false}
use mathlib.Core.List.{List, [], ◌∷◌}
use Prim.Native.Nat.{ℕ, zero, suc, ◌+◌, ◌*◌, ◌<◌, ◌≤◌}
use native.Mathlib.Omega.{arith}
use lib.ListN.{length, take, get_or, length-take}
use lib.Seq.{get_or-take, ext_get_or, length-take-le}
use borrow.Author.Tests.{le-ltb}
use Rattle.clock_activation.specs.declared.Held.{Held}
use Rattle.clock_activation.specs.Activation.{nobody}
use Rattle.clock_activation.specs.Code.{Narrow}
use Rattle.clock_activation.specs.Places.{held_in, mark_of}
use Rattle.clock_activation.proofs.Places.{held_back}
use Rattle.clock_states.specs.UpTo.{up_to}
use Rattle.clock_states.specs.States.{app_at, apps_in, states_word}
use Rattle.clock_states.proofs.UpTo.{up-length, up_at}
use Rattle.clock_states.proofs.States.{states-back}
use Rattle.clock_record.specs.Lists.{All}
use Rattle.clock_record.specs.Book.{Book}
use Rattle.clock_record.specs.Words.{in_place, helds_in, pairs, book_in, words_with, words_of}
use Rattle.clock_record.proofs.Lists.{all-at, all_take}

-- one that is held, whose numbers have their widths
abbrev pub Fits : Held → Type 0
Fits h = Narrow h.activation

-- eight states and at most 32 held, each with numbers of its widths
pub record Sized (b : Book) : Type 0 where
  pub apps : length b.apps ≡ 8
  pub held : length b.held ≤ 32
  pub each : All Fits b.held

place-fits : (time w : ℕ) → Fits (held_in time w)
unfolding held_in
place-fits time w = record { event = omega arith; application = omega arith }

all_up : (n : ℕ) (f : ℕ → Held) → ((i : ℕ) → Fits (f i)) → All Fits (up_to n f)
unfolding up_to
all_up zero f h = tt
all_up (suc n) f h = (h 0, all_up n (λ k. f (suc k)) (λ k. h (suc k)))

pub places : (w : List ℕ) → length (helds_in w) ≡ 32
unfolding helds_in
places w = up-length 32 (in_place w)

held-few : (w : List ℕ) → length (book_in w).held ≤ 32
held-few w = let e = places w in simp length-take (omega arith)

pub sized : (w : List ℕ) → Sized (book_in w)
unfolding apps_in helds_in
sized w =
    record {
      apps = up-length 8 (app_at (get_or w 1 0));
      held = held-few w;
      each = all_take Fits (get_or w 2 0) (up_to 32 (in_place w)) (all_up 32 (in_place w) (λ i. place-fits (get_or w (3 + 2 * i) 0) (get_or w (4 + 2 * i) 0)));
    }

nobody-fits : Fits nobody
nobody-fits = record { event = omega arith; application = omega arith }

pairs-time : (n i : ℕ) (hs : List Held) → i < n → get_or (pairs n hs) (2 * i) 0 ≡ (get_or hs i nobody).activation.time
unfolding pairs
pairs-time zero i hs h = absurd (omega arith)
pairs-time (suc n) zero [] h = refl
pairs-time (suc n) zero (x ∷ hs) h = refl
pairs-time (suc n) (suc i) [] h = let e : 2 * suc i ≡ suc (suc (2 * i)) = omega arith in rw e (pairs-time n i [] (omega arith))
pairs-time (suc n) (suc i) (x ∷ hs) h = let e : 2 * suc i ≡ suc (suc (2 * i)) = omega arith in rw e (pairs-time n i hs (omega arith))

pairs-mark : (n i : ℕ) (hs : List Held) → i < n → get_or (pairs n hs) (suc (2 * i)) 0 ≡ mark_of (get_or hs i nobody)
unfolding pairs mark_of
pairs-mark zero i hs h = absurd (omega arith)
pairs-mark (suc n) zero [] h = refl
pairs-mark (suc n) zero (x ∷ hs) h = refl
pairs-mark (suc n) (suc i) [] h = let e : 2 * suc i ≡ suc (suc (2 * i)) = omega arith in rw e (pairs-mark n i [] (omega arith))
pairs-mark (suc n) (suc i) (x ∷ hs) h = let e : 2 * suc i ≡ suc (suc (2 * i)) = omega arith in rw e (pairs-mark n i hs (omega arith))

module _ (b : Book) (f : Sized b) where
  place-back : (i : ℕ) → i < 32 → in_place (words_of b) i ≡ get_or b.held i nobody
  unfolding words_with
  place-back i h =
      let e : 3 + 2 * i ≡ suc (suc (suc (2 * i))) = omega arith in
      let g : 4 + 2 * i ≡ suc (suc (suc (suc (2 * i)))) = omega arith in
      rw (e, g, pairs-time 32 i b.held h, pairs-mark 32 i b.held h) (held_back (get_or b.held i nobody) (all-at Fits b.held nobody nobody-fits f.each i))

  held-there : take (length b.held) (helds_in (words_of b)) ≡ b.held
  unfolding helds_in
  held-there =
      let few = f.held in
      let long : length (up_to 32 (in_place (words_of b))) ≡ 32 = up-length 32 (in_place (words_of b)) in
      let n : length (take (length b.held) (up_to 32 (in_place (words_of b)))) ≡ length b.held =
      length-take-le (length b.held) (up_to 32 (in_place (words_of b))) (omega arith) in
      ext_get_or nobody _ _ n
      λ i h.
      let k : i < length b.held = omega arith in
      let m : i < 32 = omega arith in
      get_or-take (length b.held) (up_to 32 (in_place (words_of b))) i nobody k
      ∙ up_at 32 (in_place (words_of b)) i nobody m
      ∙ place-back i m

  apps-back : apps_in (states_word b.apps) ≡ b.apps
  apps-back = states-back b.apps f.apps

  pub back : b.over ≡ false → book_in (words_of b) ≡ b
  unfolding words_with
  back o = rw (le-ltb _ _ f.held, apps-back, held-there, ← o)
