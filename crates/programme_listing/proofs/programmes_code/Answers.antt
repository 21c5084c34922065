-- `programme_listing::programmes_code` meets its promise in each arm.
use mathlib.Core.Path.{sym, ap, ◌∙◌}
use borrow.Author.Rules.{rules}
use Rattle.programme_listing.proofs.Answers.{list-told}
use Rattle.programme_listing.proofs.Short.{listed-within}
use Rattle.programme_listing.specs.Answer.{listed_code}
use Rattle.programme_listing.specs.Listing.{listing}
use Rattle.programme_listing.proofs.programmes_code.Goals as goal

pub overflow_mul-result : goal.overflow_mul-result
overflow_mul-result c = let within = listed-within _ _ _ _ (sym (ap (λ r. listing r c.list_programmes.new.out) c.in-Ok.is) ∙ c.list_programmes.ensures) in
    search rules

pub returns-in-Ok : goal.returns-in-Ok
returns-in-Ok c = list-told _ _ _ _ _ c.list_programmes.ensures (sym (ap listed_code c.in-Ok.is))

pub returns-in-Err : goal.returns-in-Err
returns-in-Err c = list-told _ _ _ _ _ c.list_programmes.ensures (c.from-in-Err.ensures ∙ c.from.ensures ∙ sym (ap listed_code c.in-Err.is))
