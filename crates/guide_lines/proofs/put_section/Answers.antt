-- `guide_lines::put_section` meets its contract, answer by answer. Assumes nothing.
use mathlib.Core.Path.{◌≡◌, sym, ap, ◌∙◌}
use mathlib.Core.List.{◌++◌, append-nil}
use Prim.Native.Nat.{◌<◌}
use native.Mathlib.Omega.{arith}
use lib.ListN.{get_or}
use mir.Syntax.{w16}
use mir.Val.{Fits}
use borrow.Author.Rules.{rules}
use Rattle.std.specs.Prelude.{Result, Ok}
use Rattle.text.specs.Text.{text, numbered}
use Rattle.text.proofs.Laws.{length-numbered}
use Rattle.text.proofs.Adds.{adds_both, adds_same, room_left}
use Rattle.sections.specs.declared.Refusal.{Refusal}
use Rattle.guides.specs.declared.Answer.{Answer}
use Rattle.guides.specs.declared.Answer.TheVariants.{NotOurs, NotYet, Noted, Repeat}
use Rattle.guide_lines.specs.Lines.{answer_line}
use Rattle.guide_lines.proofs.Laws.{names_fit}
use Rattle.guide_lines.proofs.put_section.Goals as goal

-- an answer within a result
told : {r : Result Answer Refusal} {a b : Answer} → r ≡ Ok a → a ≡ b → r ≡ Ok b
told e f = e ∙ ap Ok f

pub put_names-requires : goal.put_names-requires
put_names-requires c =
    let section = c.args.section.now in
    let e : c.args.answer ≡ Ok (Noted c.in-Ok-Noted.missing) = told c.in-Ok-Noted.is (rw c.in-Ok-Noted.is at c.in-Ok-Noted.field-0-is) in
    let in_force = rw e at c.requires.names_had in
    let small : Fits w16 c.in-Ok-Noted.missing = search rules in
    let byte : get_or section 8 0 < 256 = omega (arith, c.type_inv.section 8) in
    (in_force, room_left c.put_missing.ensures _ _ (omega (arith, length-numbered 4 c.in-Ok-Noted.missing (omega arith), names_fit section in_force byte)) c.requires.longest_lines_in_bounds)

pub returns-in-Ok-NotOurs : goal.returns-in-Ok-NotOurs
unfolding answer_line
returns-in-Ok-NotOurs c = let e : c.args.answer ≡ Ok NotOurs = told c.in-Ok-NotOurs.is (rw c.in-Ok-NotOurs.is at c.in-Ok-NotOurs.field-0-is) in
    rw e c.put.ensures

pub returns-in-Ok-NotYet : goal.returns-in-Ok-NotYet
unfolding answer_line
returns-in-Ok-NotYet c = let e : c.args.answer ≡ Ok NotYet = told c.in-Ok-NotYet.is (rw c.in-Ok-NotYet.is at c.in-Ok-NotYet.field-0-is) in
    rw e c.put-in-Ok-NotYet.ensures

pub returns-in-Ok-Noted : goal.returns-in-Ok-Noted
unfolding answer_line
returns-in-Ok-Noted c = let e : c.args.answer ≡ Ok (Noted c.in-Ok-Noted.missing) = told c.in-Ok-Noted.is (rw c.in-Ok-Noted.is at c.in-Ok-Noted.field-0-is) in
    rw e (adds_both c.put_missing.ensures c.put_names.ensures)

pub returns-in-Ok-Repeat : goal.returns-in-Ok-Repeat
unfolding answer_line
returns-in-Ok-Repeat c = let e : c.args.answer ≡ Ok (Repeat c.in-Ok-Repeat.missing) = told c.in-Ok-Repeat.is (rw c.in-Ok-Repeat.is at c.in-Ok-Repeat.field-0-is) in
    rw e (adds_same (sym (append-nil (text "SE 0 repeat missing " ++ numbered c.in-Ok-Repeat.missing))) c.put_missing-in-Ok-Repeat.ensures)
