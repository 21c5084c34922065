-- What a question is answered after a history, by the log alone.
--   asked-exactly
use mathlib.Core.Path.{◌≡◌, sym, ap, ◌∙◌}
use mathlib.Core.Bool.{true, false}
use mathlib.Core.List.{List}
use Prim.Native.Nat.{ℕ}
use lib.Dec.{ltb}
use lib.ListN.{length}
use borrow.Author.Tests.{ltb-true, ltb-false}
use Rattle.base.proofs.Cases.{by}
use Rattle.berth.specs.Berth.{sections}
use Rattle.shelf.specs.Record.{place_of}
use Rattle.key.specs.declared.Key.{Key}
use Rattle.shelf_laws.specs.State.{State, copy_out}
use Rattle.shelf_laws.specs.History.{Question, about, Call, Entry, copied, wholly, lacking, saved, reply, after_all, log_of}
use Rattle.shelf_laws.specs.Log.{held_by, since, bytes_since}
use Rattle.shelf_laws.specs.Questions.{copy_by, reply_by}
use Rattle.shelf_laws.specs.Laws.{AskedExactly}
use Rattle.shelf_laws.proofs.Kept.{Good, Kept}
use Rattle.shelf_laws.proofs.Asked.{kept-copied, kept-16, kept-15, kept_whole, kept-missing, kept-saved, above-16, refused-14, unheld-reply}
use Rattle.shelf_laws.proofs.Histories.{logged_table, holds-all}
use Rattle.shelf_laws.proofs.Held.{held_place, unheld-place}

module _ (h : List Call) (key : Key) (t : held_by key (log_of h) ≡ true) where
  abbrev s : State
  s = after_all h

  abbrev log : List Entry
  log = log_of h

  good : Good s
  good = (holds-all h).good

  kept : Kept s key (place_of s.shelf key) (logged_table key log)
  kept = ((holds-all h).table key).kept (held_place h key t)

  held-copy : (n : ℕ) (out : List ℕ) → copy_out s key n out ≡ copy_by key log n out
  held-copy n out =
      by (ltb n sections)
      (λ i.
      by (since key log n)
      (λ y.
      by (ltb (length out) (length (bytes_since key log n)))
      (λ u. rw (t, i, y, u) (kept-15 s good key kept n (ltb-true _ _ i) y out (ltb-true _ _ u)))
      (λ u. rw (t, i, y, u) (kept-copied s good key kept n (ltb-true _ _ i) y out (ltb-false _ _ u))))
      (λ y. rw (t, i, y) (kept-16 s good key kept n (kept.numbers n (ltb-true _ _ i) ∙ y) out)))
      (λ i. rw (t, i) (kept-16 s good key kept n (above-16 s good key (place_of s.shelf key) n kept.taken (ltb-false _ _ i)) out))

held-reply : (h : List Call) (q : Question) → held_by (about q) (log_of h) ≡ true → reply (after_all h) q ≡ reply_by (log_of h) q
held-reply h (Question.copy key n out) t = ap copied (held-copy h key t n out)
held-reply h (Question.whole key) t = rw t (ap wholly (kept_whole (after_all h) (holds-all h).good key (kept h key t)))
held-reply h (Question.missing key) t = rw t (ap lacking (kept-missing (after_all h) (holds-all h).good key (kept h key t)))
held-reply h (Question.save key out) t = rw t (ap saved (kept-saved (after_all h) (holds-all h).good key (kept h key t) out))

unheld-by : (log : List Entry) (q : Question) → held_by (about q) log ≡ false → reply_by log q ≡ refused-14 q
unheld-by log (Question.copy key n out) f = rw f
unheld-by log (Question.whole key) f = rw f
unheld-by log (Question.missing key) f = rw f
unheld-by log (Question.save key out) f = rw f

pub asked-exactly : AskedExactly
asked-exactly h q =
    by (held_by (about q) (log_of h))
    (held-reply h q)
    (λ f. unheld-reply (after_all h) (holds-all h).good q (unheld-place h (about q) f) ∙ sym (unheld-by (log_of h) q f))
