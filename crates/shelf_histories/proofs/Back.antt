-- The numbers lose nothing: the log that they tell is the layer's.
--   size_in_lem, ..-back           a size, and an answer, comes back out of its number
--   entry-number, reply-number     the low 8 bits are the paper's number
--   entry-back, log_back           a call's entry comes back out of its line, and a log out of its lines
use mathlib.Core.Path.{◌≡◌, refl, ap, ◌∙◌}
use mathlib.Core.Bool.{Bool, true, false}
use mathlib.Core.List.{List, [], ◌∷◌}
use Prim.Native.Nat.{ℕ, ◌+◌, ◌*◌, ◌%◌, ◌<◌}
use native.Mathlib.Omega.{arith}
use Rattle.std.specs.Prelude.{Result, Ok, Err, Option, Some, None}
use Rattle.refusal.specs.Refusal.{number, number_of, refusal_of}
use Rattle.refusal.specs.declared.Refusal.{Refusal}
use Rattle.refusal.proofs.Numbers.{in_byte, back}
use Rattle.shelf_offer.specs.Answer.{offered_code}
use Rattle.shelf_offer.proofs.Told.{offered-back}
use Rattle.shelf_offer.specs.declared.Offered.{Offered}
use Rattle.shelf_release.proofs.Told.{released-back}
use Rattle.shelf_ask.specs.Ask as Ask
use Rattle.shelf_ask.specs.Answer.{whole_code, missing_code}
use Rattle.shelf_ask.proofs.Told.{whole_back_lem, missing-back}
use Rattle.shelf_load.proofs.Told.{loaded-back}
use Rattle.shelf_save.specs.Save as Save
use Rattle.answers.specs.Answers.{refusal_in, size_code, size_in, size_or, done, sized}
use Rattle.answers.proofs.Fills.{size_back, refusal-back}
use Rattle.shelf_laws.specs.State.{State, offer_to, load_on, release_from, copy_out, whole_in, missing_in, save_out}
use Rattle.shelf_laws.specs.History.{Question, Call, Reply, reply_no, number_in, Entry, offered, loaded, released, asked, copied, wholly, lacking, saved, entry, reply, step, logged, log_of, start}
use Rattle.shelf_laws.proofs.Ranges.{SizeRange, ReplyRange, Range, range}
use Rattle.shelf_laws.proofs.Histories.{Holds, step-holds, start-holds}
use Rattle.shelf_histories.specs.Numbers.{replied, answered, called, in_numbers, reply_in, entry_in, log_in}

-- a size comes back out of its number
pub size_in_lem : (n : ℕ) → n < 65536 → size_in (size_code n) ≡ n
size_in_lem n h = omega arith

-- .. and a size or a refusal out of theirs
sized-back : (a : Result ℕ Refusal) → SizeRange a → size_or Ok (λ n. Err (refusal_of n)) (sized a) ≡ a
sized-back (Ok n) h = size_back Ok (λ m. Err (refusal_of m)) n h
sized-back (Err r) h = refusal-back Ok (λ m. Err (refusal_of m)) (number r) (in_byte r).0 (in_byte r).1 ∙ ap Err (back r)

-- the low 8 bits are the paper's number
refusal-number : (r : Refusal) → refusal_in (number r) ≡ number r
refusal-number r = let b : number r < 256 = (in_byte r).1 in omega arith

done-number : (a : Result (Unit {0}) Refusal) → refusal_in (done a) ≡ number_of a
done-number (Ok a) = refl
done-number (Err r) = refusal-number r

sized-number : (a : Result ℕ Refusal) → refusal_in (sized a) ≡ number_of a
sized-number (Ok n) = omega arith
sized-number (Err r) = refusal-number r

offered-number : (a : Result Offered Refusal) → refusal_in (offered_code a) ≡ number_of a
offered-number (Ok Offered.Began) = refl
offered-number (Ok Offered.BeganAgain) = refl
offered-number (Ok Offered.Added) = refl
offered-number (Ok Offered.Repeat) = refl
offered-number (Err r) = refusal-number r

whole-number : (a : Result Bool Refusal) → refusal_in (whole_code a) ≡ number_of a
whole-number (Ok true) = refl
whole-number (Ok false) = refl
whole-number (Err r) = refusal-number r

missing-number : (a : Result (Option ℕ) Refusal) → refusal_in (missing_code a) ≡ number_of a
missing-number (Ok None) = refl
missing-number (Ok (Some n)) = let e : (512 + 65536 * n) % 256 ≡ 0 = omega arith in e
missing-number (Err r) = refusal-number r

pub reply-number : (a : Reply) → refusal_in (replied a).code ≡ reply_no a
reply-number (copied c) = sized-number c.said
reply-number (wholly said) = whole-number said
reply-number (lacking said) = missing-number said
reply-number (saved c) = sized-number c.said

pub entry-number : (e : Entry) → refusal_in (answered e).code ≡ number_in e
entry-number (offered payload said) = offered-number said
entry-number (loaded file said) = done-number said
entry-number (released key said) = done-number said
entry-number (asked question said) = reply-number said

module _ (s : State) where
  -- an answer comes back out of its number
  reply-back : (q : Question) → ReplyRange (reply s q) → reply_in q (replied (reply s q)) ≡ reply s q
  reply-back (Question.copy key n bytes) r =
      ap (λ a. copied (Ask.copy a (copy_out s key n bytes).out)) (sized-back (copy_out s key n bytes).said r)
  reply-back (Question.whole key) r = ap wholly (whole_back_lem (whole_in s key))
  reply-back (Question.missing key) r = ap lacking (missing-back (missing_in s key))
  reply-back (Question.save key bytes) r =
      ap (λ a. saved (Save.save a (save_out s key bytes).out)) (sized-back (save_out s key bytes).said r)

  pub entry-back : (c : Call) → Range (entry s c) → entry_in (called (entry s c)) (answered (entry s c)) ≡ entry s c
  entry-back (Call.offer payload) r = ap (offered payload) (offered-back (offer_to s payload).said)
  entry-back (Call.load file) r = ap (loaded file) (loaded-back (load_on s file).said)
  entry-back (Call.release key) r = ap (released key) (released-back (release_from s key).said)
  entry-back (Call.ask question) r = ap (asked question) (reply-back question r)

back_from : (s : State) (log : List Entry) → Holds s log → log_in (in_numbers log) ≡ log → (cs : List Call)
    → log_in (in_numbers (logged s log cs)) ≡ logged s log cs
back_from s log h e [] = e
back_from s log h e (c ∷ cs) =
    back_from (step s c) (entry s c ∷ log) (step-holds s log h c)
    (ap (λ x. x ∷ log_in (in_numbers log)) (entry-back s c (range s h.good c)) ∙ ap (λ l. entry s c ∷ l) e) cs

pub log_back : (h : List Call) → log_in (in_numbers (log_of h)) ≡ log_of h
log_back h = back_from start [] start-holds refl h
