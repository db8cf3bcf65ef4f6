-- `typed::answer_text` meets its contract: the bytes put are the first of the listing, and all of it that is answered. Assumes nothing.
use Prim.Native.Nat.{ℕ}
use mathlib.Core.Path.{ap, ◌∙◌}
use mathlib.Core.List.{List}
use lib.ListN.{drop}
use Rattle.typed.specs.Typed.{kind_bytes, answer_for, reply_for, reply_log}
use Rattle.hex_text.proofs.Read.{take-hex_said}
use Rattle.typed.proofs.answer_text.Goals as goal

pub returns-clause-value : goal.returns-clause-value
returns-clause-value c = let a = c.args in
    let said = take-hex_said a.count (drop kind_bytes a.text.now) a.listing.now _ c.requires.count_in_bounds.1 c.take_hex.ensures in
    c.answer.ensures.value ∙ ap (λ (xs : List ℕ). reply_for (answer_for a.kind xs)) said

pub returns-clause-log_after : goal.returns-clause-log_after
returns-clause-log_after c = let a = c.args in
    let said = take-hex_said a.count (drop kind_bytes a.text.now) a.listing.now _ c.requires.count_in_bounds.1 c.take_hex.ensures in
    c.answer.ensures.log_after ∙ ap (λ (xs : List ℕ). reply_log c.answer.result a.kind xs a.log.now) said
