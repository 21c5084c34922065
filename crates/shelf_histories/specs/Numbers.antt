-- Logs of the shelf's calls in the numbers that cross the boundary, and the log that numbers tell. The number for each answer is the
-- one that the exported function promises (specs/Answer of each call's crate).
use Rattle.std.specs.Prelude.{List, [], map}
use Rattle.answers.specs.Answers.{Out, out}
use Rattle.shelf_offer.specs.Answer.{offered_code, offered_in}
use Rattle.shelf_release.specs.Answer.{released_code, released_in}
use Rattle.shelf_ask.specs.Ask as Ask
use Rattle.shelf_ask.specs.Answer.{whole_code, whole_back, missing_code, missing_back, copied_in, copy_out}
use Rattle.shelf_load.specs.Answer.{loaded_code, loaded_in}
use Rattle.shelf_save.specs.Save as Save
use Rattle.shelf_save.specs.Answer.{saved_in, save_out}
use Rattle.shelf_laws.specs.History.{Question, copy, whole, missing, save, Call, Reply, Entry, offer, load, release, ask, offered, loaded, released, asked, copied, wholly, lacking, saved}

-- an answer in numbers, with the output as it is left; none is lent to a call that fills none
abbrev pub replied : Reply → Out
replied (copied c) = copy_out c
replied (wholly said) = out (whole_code said) []
replied (lacking said) = out (missing_code said) []
replied (saved c) = save_out c

abbrev pub answered : Entry → Out
answered (offered payload said) = out (offered_code said) []
answered (loaded file said) = out (loaded_code said) []
answered (released key said) = out (released_code said) []
answered (asked question said) = replied said

abbrev pub called : Entry → Call
called (offered payload said) = offer payload
called (loaded file said) = load file
called (released key said) = release key
called (asked question said) = ask question

-- a call with what it answered at the boundary
pub record Line : Type 0 where
  pub call : Call
  pub answer : Out

abbrev pub line : Call → Out → Line
line call answer = record { call = call; answer = answer }

abbrev pub line_of : Entry → Line
line_of e = line (called e) (answered e)

-- a log in numbers
abbrev pub in_numbers : List Entry → List Line
in_numbers log = map line_of log

-- the log that numbers tell
abbrev pub reply_in : Question → Out → Reply
reply_in (copy key n bytes) a = copied (Ask.copy (copied_in a.code) a.out)
reply_in (whole key) a = wholly (whole_back a.code)
reply_in (missing key) a = lacking (missing_back a.code)
reply_in (save key bytes) a = saved (Save.save (saved_in a.code) a.out)

abbrev pub entry_in : Call → Out → Entry
entry_in (offer payload) a = offered payload (offered_in a.code)
entry_in (load file) a = loaded file (loaded_in a.code)
entry_in (release key) a = released key (released_in a.code)
entry_in (ask question) a = asked question (reply_in question a)

abbrev pub log_in : List Line → List Entry
log_in lines = map (λ l. entry_in l.call l.answer) lines
