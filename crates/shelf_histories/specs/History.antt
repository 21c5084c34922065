-- Histories of calls at the boundary: a shelf is begun on numbers and a store that a host lends, and each call is lent what the last
-- one left. The calls are those of the layer's histories; what each leaves is what the exported function promises.
use Rattle.std.specs.Prelude.{ℕ, ◌≡◌, List, [], ◌∷◌, length}
use Rattle.answers.specs.Answers.{Lent, Out, out}
use Rattle.berth.specs.Berth.{store_size}
use Rattle.key.specs.declared.Key.{Key}
use Rattle.shelf.specs.Layout.{count, shelf_at}
use Rattle.shelf_begin.specs.Answer.{begin_lent}
use Rattle.shelf_offer.specs.Answer.{offer_lent}
use Rattle.shelf_release.specs.Answer.{release_lent}
use Rattle.shelf_ask.specs.Answer.{whole_lent, missing_lent, copy_lent}
use Rattle.shelf_load.specs.Answer.{load_lent}
use Rattle.shelf_save.specs.Answer.{save_lent}
use Rattle.shelf_laws.specs.State.{State}
use Rattle.shelf_laws.specs.History.{OfBytes, Question, Call, Entry, copy, whole, missing, save, offer, load, release, ask}
use Rattle.shelf_histories.specs.Numbers.{Line, line, log_in}

-- what a host lends: the record's numbers and the store
pub record Loan : Type 0 where
  pub words : List ℕ
  pub store : List ℕ

-- they are as many as a record and a store have, whatever stands in them
pub record Sized (l : Loan) : Type 0 where
  pub numbers : length l.words ≡ count
  pub bytes : length l.store ≡ store_size

-- what a call leaves of them
abbrev pub loan : Lent → Loan
loan r = record { words = r.words; store = r.store }

-- the record that the numbers are, with the store
abbrev pub state_of : Loan → State
state_of l = record { shelf = shelf_at l.words; store = l.store }

module _ (l : Loan) where
  abbrev pub reply_to : Question → Out
  reply_to (copy key n bytes) = copy_lent l.words l.store key n bytes
  reply_to (whole key) = out (whole_lent l.words l.store key) []
  reply_to (missing key) = out (missing_lent l.words l.store key) []
  reply_to (save key bytes) = save_lent l.words l.store key bytes

  -- what a call answers
  abbrev pub answer_to : Call → Out
  answer_to (offer payload) = out (offer_lent l.words l.store payload).code []
  answer_to (load file) = out (load_lent l.words l.store file).code []
  answer_to (release key) = out (release_lent l.words l.store key).code []
  answer_to (ask question) = reply_to question

  -- what it leaves; questions are lent numbers and a store to read only
  abbrev pub left_by : Call → Loan
  left_by (offer payload) = loan (offer_lent l.words l.store payload)
  left_by (load file) = loan (load_lent l.words l.store file)
  left_by (release key) = loan (release_lent l.words l.store key)
  left_by (ask question) = l

  -- a fresh shelf
  abbrev pub begun : Loan
  begun = loan (begin_lent l.words l.store)

-- what the calls of a history leave, in order
abbrev pub left_from : Loan → List Call → Loan
left_from l [] = l
left_from l (c ∷ cs) = left_from (left_by l c) cs

-- their answers, the latest first, before older ones
abbrev pub lines_from : Loan → List Line → List Call → List Line
lines_from l lines [] = lines
lines_from l lines (c ∷ cs) = lines_from (left_by l c) (line c (answer_to l c) ∷ lines) cs

-- a history: what was lent to begin a shelf on, whatever stood in it, and the calls that followed, whose payloads and files are of
-- bytes, as all are that a host can lend
pub record History : Type 0 where
  pub lent : Loan
  pub sizes : Sized lent
  pub calls : List Call
  pub bytes : OfBytes calls

module _ (h : History) where
  -- what it leaves
  abbrev pub left_after : Loan
  left_after = left_from (begun h.lent) h.calls

  -- each call with its number
  abbrev pub lines_after : List Line
  lines_after = lines_from (begun h.lent) [] h.calls

  -- the log that the numbers tell
  abbrev pub log_after : List Entry
  log_after = log_in lines_after

  -- what is answered to the next call, and what it leaves
  abbrev pub reply_after : Question → Out
  reply_after = reply_to left_after

  abbrev pub whole_after : Key → ℕ
  whole_after key = whole_lent left_after.words left_after.store key

  abbrev pub copy_after : Key → ℕ → List ℕ → Out
  copy_after key n bytes = copy_lent left_after.words left_after.store key n bytes

  abbrev pub save_after : Key → List ℕ → Out
  save_after key bytes = save_lent left_after.words left_after.store key bytes

  abbrev pub offer_after : List ℕ → Lent
  offer_after payload = offer_lent left_after.words left_after.store payload

  abbrev pub release_after : Key → Lent
  release_after key = release_lent left_after.words left_after.store key

  abbrev pub load_after : List ℕ → Lent
  load_after file = load_lent left_after.words left_after.store file

-- so of every line
abbrev pub EachLine : (Line → Type 0) → List Line → Type 0
EachLine p [] = Unit {0}
EachLine p (l ∷ ls) = p l × EachLine p ls
