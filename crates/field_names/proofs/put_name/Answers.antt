-- `field_names::put_name` meets its contract: the name looked up is the row's. Assumes nothing.
use Rattle.std.proofs.Common.{Bor}
use mathlib.Core.Path.{◌≡◌, sym, ap, ◌∙◌}
use mathlib.Core.List.{List, [], map}
use Prim.Native.Nat.{ℕ, ◌<◌}
use lib.ListN.{length, get_or}
use Rattle.std.proofs.lemmas.List.{get_or-map}
use Rattle.octets.specs.Tables.{Row, name_for}
use Rattle.text.specs.Text.{text}
use Rattle.fields.specs.Fields.{rows_of}
use Rattle.field_names.specs.Names.{name_in}
use Rattle.field_names.proofs.Laws.{name-among}
use Rattle.field_names.proofs.put_name.Goals as goal

-- what is looked up at i among the names of the rows
looked_up : (rows : List Row) (names : List (Bor (List ℕ))) (i : ℕ) (name : Bor (List ℕ)) → map (λ n. n.now) names ≡ map (λ row. text (name_for row)) rows → i < length names → name ≡ get_or names i name → name.now ≡ name_in rows i
looked_up rows names i name same inside is =
    ap (λ (n : Bor (List ℕ)). n.now) is
    ∙ sym (get_or-map (λ (n : Bor (List ℕ)). n.now) names i name [] inside)
    ∙ ap (λ (ns : List (List ℕ)). get_or ns i []) same
    ∙ name-among rows i

pub put-requires : goal.put-requires
put-requires c = let a = c.args in
    let found = c.in-Some.ensures.lookup in
    let name = looked_up (rows_of a.table) _ a.row c.in-Some.name.now c.names.ensures found.3.0 found.1 in
    rw name c.requires

pub returns-in-Some : goal.returns-in-Some
returns-in-Some c = let a = c.args in
    let found = c.in-Some.ensures.lookup in
    let name = looked_up (rows_of a.table) _ a.row c.in-Some.name.now c.names.ensures found.3.0 found.1 in
    rw (← name) c.put.ensures
