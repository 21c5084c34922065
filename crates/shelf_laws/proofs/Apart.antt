-- Offers of other tables' sections leave every answer about a table as it was.
--   reply-apart      what the log says of a table does not change by a payload of another key
--   others-stay      so of a history and offers after it
use Rattle.std.specs.Prelude.{if◌then◌else◌, Result, Ok, Err, Some, None}
use mathlib.Core.Path.{◌≡◌, refl, sym, ap, fun_ext, ◌∙◌}
use mathlib.Core.Bool.{Bool, false, not}
use mathlib.Core.List.{List, [], ◌∷◌, ◌++◌, append_assoc, append-nil}
use Prim.Native.Nat.{ℕ, ◌+◌}
use Rattle.refusal.specs.declared.Refusal.{Refusal}
use Rattle.refusal.specs.declared.Refusal.TheVariants.{TableNotHeld}
use Rattle.base.specs.Choice.{◌if◌, first}
use Rattle.base.specs.Below.{every, lowest}
use Rattle.base.proofs.Cases.{by}
use Rattle.key.specs.declared.Key.{Key}
use Rattle.key.specs.Key.{same_key}
use Rattle.key.proofs.Keys.{same_key_lem}
use Rattle.berth.specs.Berth.{sections}
use Rattle.file.specs.Layout.{file_of, chosen}
use Rattle.shelf_offer.specs.declared.Offered.{Offered}
use Rattle.shelf_save.specs.Save.{refuse, unsaved, written}
use Rattle.shelf_laws.specs.Named.{key_in}
use Rattle.shelf_laws.specs.State.{State, offer_to}
use Rattle.shelf_laws.specs.History.{Question, Call, Entry, about, entry, step, after, logged, start, after_all, log_of, reply_after, offered, wholly, lacking, saved}
use Rattle.shelf_laws.specs.Log.{held_by, last_since, since, bytes_since}
use Rattle.shelf_laws.specs.Questions.{reply_by}
use Rattle.shelf_laws.specs.Apart.{offers_of, OthersStay}
use Rattle.shelf_laws.proofs.Questions.{asked-exactly}

not_same : (a b : Key) → ¬ (a ≡ b) → same_key a b ≡ false
not_same a b d = by (same_key a b) (λ t. absurd (d (same_key_lem a b t))) (λ t. t)

-- what a log says of a table, and the replies that are made of it
module _ (key : Key) (payload : List ℕ) (said : Result Offered Refusal) (log : List Entry) (d : ¬ (key_in payload ≡ key)) where
  abbrev later : List Entry
  later = offered payload said ∷ log

  held-apart : held_by key later ≡ held_by key log
  held-apart = rw (not_same (key_in payload) key d)

  last_apart : last_since key later ≡ last_since key log
  last_apart = rw (not_same (key_in payload) key d)

  since-apart : since key later ≡ since key log
  since-apart = fun_ext (λ n. rw (not_same (key_in payload) key d))

  bytes_apart : bytes_since key later ≡ bytes_since key log
  bytes_apart = fun_ext (λ n. rw (not_same (key_in payload) key d))

  -- whatever is made of the four
  four-apart : {A : Type 0} (f : Bool → ℕ → (ℕ → Bool) → (ℕ → List ℕ) → A)
      → f (held_by key later) (last_since key later) (since key later) (bytes_since key later) ≡ f (held_by key log) (last_since key log) (since key log) (bytes_since key log)
  four-apart f =
      ap (λ x. f x (last_since key later) (since key later) (bytes_since key later)) held-apart
      ∙ ap (λ x. f (held_by key log) x (since key later) (bytes_since key later)) last_apart
      ∙ ap (λ x. f (held_by key log) (last_since key log) x (bytes_since key later)) since-apart
      ∙ ap (f (held_by key log) (last_since key log) (since key log)) bytes_apart

reply-apart : (payload : List ℕ) (said : Result Offered Refusal) (log : List Entry) (q : Question) → ¬ (key_in payload ≡ about q)
    → reply_by (offered payload said ∷ log) q ≡ reply_by log q
reply-apart payload said log (Question.copy key n out) d = rw (not_same (key_in payload) key d)
reply-apart payload said log (Question.whole key) d =
    four-apart key payload said log d
    (λ held last has bytes. wholly (first Err (TableNotHeld if not held ∷ []) (Ok (every (last + 1) has))))
reply-apart payload said log (Question.missing key) d =
    four-apart key payload said log d
    (λ held last has bytes.
    lacking
    (first Err (TableNotHeld if not held ∷ []) (Ok (if every (last + 1) has then None else Some (lowest (last + 1) (λ n. not (has n)))))))
reply-apart payload said log (Question.save key out) d =
    four-apart key payload said log d
    (λ held last has bytes.
    saved
    (first (refuse out) (TableNotHeld if not held ∷ unsaved (file_of (chosen sections has bytes)) out) (written (file_of (chosen sections has bytes)) out)))

-- a history and one call more
log-more : (s : State) (log : List Entry) (h : List Call) (c : Call) → logged s log (h ++ (c ∷ [])) ≡ entry (after s h) c ∷ logged s log h
log-more s log [] c = refl
log-more s log (d ∷ h) c = log-more (step s d) (entry s d ∷ log) h c

one-stays : (h : List Call) (payload : List ℕ) (q : Question) → ¬ (key_in payload ≡ about q)
    → reply_after (h ++ (Call.offer payload ∷ [])) q ≡ reply_after h q
one-stays h payload q d =
    asked-exactly (h ++ (Call.offer payload ∷ [])) q
    ∙ ap (λ log. reply_by log q) (log-more start [] h (Call.offer payload))
    ∙ reply-apart payload (offer_to (after_all h) payload).said (log_of h) q d
    ∙ sym (asked-exactly h q)

pub others-stay : OthersStay
others-stay h [] q o = ap (λ l. reply_after l q) (append-nil h)
others-stay h (p ∷ ps) q o =
    ap (λ l. reply_after l q) (sym (append_assoc h (Call.offer p ∷ []) (offers_of ps)))
    ∙ others-stay (h ++ (Call.offer p ∷ [])) ps q o.1
    ∙ one-stays h p q o.0
