-- A record of the program `guide`: the gathering takes the section, and its lines are put. Assumes nothing.
use Rattle.std.proofs.Common.{arith, rules, List, ℕ, Result, ◌≡◌, ◌-◌, sym, ap, subst, ◌∙◌, length, take, drop}
use Rattle.octets.specs.Bits.{Bytes}
use Rattle.octets.proofs.Laws.{bytes_all, bytes_drop}
use Rattle.text.proofs.Adds.{adds_same}
use Rattle.programs.proofs.Alone.{all_behind, takes_alone}
use Rattle.sections.specs.declared.Refusal.{Refusal}
use Rattle.guides.specs.declared.Answer.{Answer}
use Rattle.guide_lines.specs.Lines.{NamesHad, section_lines}
use Rattle.guiding.specs.Guiding.{guide_program, next_gathering, lines_of}
use Rattle.guiding.proofs.Laws.{names_had, guide_fits}
use Rattle.guiding.proofs.GuideProgram.take.Goals as goal

pub put_section-requires-clause-names_had : goal.put_section-requires-clause-names_had
put_section-requires-clause-names_had c =
    subst (λ (a : Result Answer Refusal). NamesHad a (take (length c.args.content.now - 2) (drop 2 c.args.content.now))) (sym c.take-t.ensures.answers) (names_had c.args.self.now.gathering _)

pub returns-clause-takes : goal.returns-clause-takes
returns-clause-takes c =
    let a = c.args in
    let g = a.self.now.gathering in
    let section : List ℕ = take (length a.content.now - 2) (drop 2 a.content.now) in
    let all : section ≡ drop 2 a.content.now = all_behind 2 a.content.now in
    let lines : section_lines c.take-t.result.answer section ≡ lines_of g (drop 2 a.content.now) = ap (λ (b : Result Answer Refusal). section_lines b section) c.take-t.ensures.answers ∙ ap (lines_of g) all in
    let bytes : Bytes (drop 2 a.content.now) = bytes_drop 2 a.content.now (bytes_all a.content.now (λ i. omega (arith, c.type_inv.content i))) in
    let puts = adds_same lines c.put_section.ensures in
    takes_alone guide_program (c.take-t.ensures.leaves ∙ ap (next_gathering g) all) (puts.at, search rules) (guide_fits g (drop 2 a.content.now) bytes) c.requires.tellable.0
