-- What the records that are left say.
--   offer-says, move-says   an offer and a move, refused or not, hand back a record that says what they leave
--   offer-long, move-long   and that is 67 words, where the one that was given is
use Rattle.std.specs.Prelude.{Ok}
use mathlib.Core.Path.{◌≡◌, refl, ap, ◌∙◌}
use mathlib.Core.Bool.{Bool, true, false, not}
use mathlib.Core.List.{List, [], ◌∷◌, map}
use Prim.Native.Nat.{ℕ, ◌≤◌}
use native.Mathlib.Omega.{arith}
use lib.ListN.{length, length-set, length-append}
use Rattle.clock_rule.specs.declared.Action.{Action}
use Rattle.clock_rule.specs.declared.App.{App}
use Rattle.clock_rule.specs.Rule.{applied}
use Rattle.clock_activation.specs.declared.Activation.{Activation}
use Rattle.clock_activation.specs.declared.Held.{Held}
use Rattle.clock_activation.specs.Code.{Narrow}
use Rattle.clock_record.specs.Lists.{All}
use Rattle.clock_record.specs.Waiting.{due_of}
use Rattle.clock_record.specs.Book.{Book}
use Rattle.clock_record.specs.Words.{words_with, words_of}
use Rattle.clock_record.proofs.Lists.{all_append, only-all}
use Rattle.clock_record.proofs.Back.{Fits, Sized, sized, back}
use Rattle.clock_due.specs.Order.{sort_of, run_of}
use Rattle.clock_keep.specs.Keep.{moved, forgotten, kept_of}
use Rattle.clock_keep.proofs.Puts.{pairs-length}
use Rattle.clock.specs.declared.Clock.{Clock}
use Rattle.clock.specs.declared.Heard.{Heard}
use Rattle.clock.specs.Answered.{Answered}
use Rattle.clock.specs.Offer.{more, applies, waits, offer_in}
use Rattle.clock.specs.Move.{advanced, move_in}
use Rattle.clock.specs.Record.{book_of, left_by, offer_to, move_to}
use Rattle.clock_laws.specs.Says.{OfferSays, MoveSays}
use Rattle.clock_laws.proofs.Cases.{Accepts, offer-cases, move-cases}
use Rattle.clock_laws.proofs.Few.{kept-few}

all_moved : (to : ℕ) (hs : List Held) → All Fits hs → All Fits (map (moved to) hs)
all_moved to [] a = tt
all_moved to (h ∷ hs) a = (a.0, all_moved to hs a.1)

applied-length : (apps : List App) (n : ℕ) (x : Action) → length (applied apps n x) ≡ length apps
unfolding applied
applied-length apps n x = simp length-set

run_length : (apps : List App) (l : List Activation) → length (run_of apps l) ≡ length apps
unfolding run_of
run_length apps [] = refl
run_length apps (a ∷ l) = run_length (applied apps a.application a.action) l ∙ applied-length apps a.application a.action

-- what a move leaves has the sizes of a record
moved-sized : (to : ℕ) (b : Book) → Sized b → Sized (advanced b to).book
unfolding kept_of
moved-sized to b s =
    record {
      apps = run_length b.apps (sort_of (due_of to b.held)) ∙ s.apps;
      held = let many = s.held in let few = kept-few to b.held in omega arith;
      each = only-all Fits (λ (h : Held). not (forgotten to h)) (map (moved to) b.held) (all_moved to b.held s.each);
    }

pub words_long : (b : Book) → length (words_of b) ≡ 67
unfolding words_with
words_long b = let e = pairs-length 32 b.held in omega arith

module _ (c : Clock) (a : Activation) where
  -- what is left for an answer
  abbrev SaysSo : Answered Heard → Type 0
  SaysSo r = record { answer = r.answer; book = book_of (left_by c r) } ≡ r

  more-sized : Narrow a → Accepts (book_of c) a → (done : Bool)
      → (length (more (book_of c) a done) ≤ 32) × All Fits (more (book_of c) a done)
  more-sized f y done =
      let room = y.room in (
        simp length-append (omega arith),
        all_append Fits (book_of c).held (record { activation = a; applied = done } ∷ []) (sized c.words).each (f, tt),
      )

  pub offer-says : Narrow a → OfferSays c a
  unfolding offer_to
  offer-says f =
      offer-cases (book_of c) a SaysSo (λ n. refl)
      (λ y h.
      ap (λ (x : Book). record { answer = Ok Heard.Applied; book = x })
      (back (applies (book_of c) a).book
      (record {
        apps = applied-length (book_of c).apps a.application a.action ∙ (sized c.words).apps;
        held = (more-sized f y true).0;
        each = (more-sized f y true).1;
      })
      refl))
      (λ y h.
      ap (λ (x : Book). record { answer = Ok Heard.Waiting; book = x })
      (back (waits (book_of c) a).book
      (record { apps = (sized c.words).apps; held = (more-sized f y false).0; each = (more-sized f y false).1 })
      refl))

  pub offer-long : length c.words ≡ 67 → length (left_by c (offer_in (book_of c) a)).words ≡ 67
  offer-long z =
      offer-cases (book_of c) a (λ r. length (left_by c r).words ≡ 67) (λ n. z)
      (λ y h. words_long (applies (book_of c) a).book)
      (λ y h. words_long (waits (book_of c) a).book)

module _ (c : Clock) (to : ℕ) where
  abbrev MovedSo : Answered ℕ → Type 0
  MovedSo r = record { answer = r.answer; book = book_of (left_by c r) } ≡ r

  pub move-says : MoveSays c to
  unfolding move_to
  move-says =
      move-cases (book_of c) to MovedSo (λ n. refl)
      (λ s h.
      ap (λ (x : Book). record { answer = (advanced (book_of c) to).answer; book = x })
      (back (advanced (book_of c) to).book (moved-sized to (book_of c) (sized c.words)) refl))

  pub move-long : length c.words ≡ 67 → length (left_by c (move_in (book_of c) to)).words ≡ 67
  move-long z =
      move-cases (book_of c) to (λ r. length (left_by c r).words ≡ 67) (λ n. z)
      (λ s h. words_long (advanced (book_of c) to).book)
