-- Laws of the lines: what is left to put of the whole; a name byte by byte, and the names of a section one by one; and how long they all are. Assumes nothing.
use mathlib.Core.Path.{◌≡◌, refl, sym, ap, subst, ◌∙◌}
use mathlib.Core.Bool.{and-false}
use mathlib.Core.List.{List, [], ◌∷◌, ◌++◌, append_assoc, append-nil, flat_map}
use mathlib.Core.Logic.{◌⊎◌, inl, inr}
use Prim.Native.Nat.{ℕ, suc, ◌+◌, ◌-◌, ◌*◌, ◌^◌, ◌≤◌, ◌<◌}
use Prim.Native.Char.{code}
use native.Mathlib.Numerals.{add-one}
use native.Mathlib.Omega.{arith}
use borrow.Author.Tests.{eq-eqb, ne_eqb, le-leb, lt-leb}
use lib.Dec.{eqb, leb}
use lib.ListN.{length, get_or, take, drop, length-append, drop_of_length-le}
use lib.Seq.{drop-cons}
use Rattle.std.specs.Prelude.{Result, Ok, Err}
use Rattle.octets.proofs.Laws.{either}
use Rattle.text.specs.declared.Output.{Output}
use Rattle.text.specs.Output.{HasRoom, Adds}
use Rattle.text.specs.Text.{text, newline, decimal, numbered, refused_with}
use Rattle.text.proofs.Adds.{adds_both, adds_same, adds_none, room_behind}
use Rattle.text.proofs.Laws.{length-decimal, length-numbered, length_refused}
use Rattle.hex_text.specs.Hex.{hex}
use Rattle.hex_text.proofs.Written.{length-hex}
use Rattle.sections.specs.declared.Refusal.{Refusal}
use Rattle.sections.specs.declared.Refusal.TheVariants.{BadLength, OtherProtocol, NumberAboveLast, RunsOver}
use Rattle.sections.specs.declared.Standing.TheVariants.{InForce}
use Rattle.sections.specs.Sizes.{head_bytes, longest_section}
use Rattle.sections.specs.Walks.{place_of, counted, provider, providers, providers_in, loops}
use Rattle.sections.specs.Reading.{number_of, offset_of, standing, provider_place, names_from, names_in}
use Rattle.sections.proofs.Laws.{then_goes, then_there, walk_within}
use Rattle.sections.proofs.Names.{head_there, providers_snoc, providers-inside, in_force_passes, passes-longest, provider_passed, provider_there, total, length-names, names_room}
use Rattle.guides.specs.declared.Answer.{Answer}
use Rattle.guides.specs.declared.Answer.TheVariants.{NotOurs, NotYet, Noted, Repeat}
use Rattle.guide_lines.specs.Lines.{escaped, escaped_name, name_text, name_line, name_lines, refusal_line, answer_line, NamesHad, section_lines, longest_lines}

-- ---- of the whole, this is left to put

pub record Left (whole : List ℕ) (o : Output) (rest : List ℕ) (p : Output) : Type 0 where
  pub put : List ℕ
  pub parts : whole ≡ put ++ rest
  pub adds : Adds put o p

module _ {whole : List ℕ} {o : Output} where
  pub left_all : Left whole o whole o
  left_all = record { put = []; parts = refl; adds = adds_none o }

  pub left_more : {vs ws rest : List ℕ} {p q : Output} → rest ≡ vs ++ ws → Left whole o rest p → Adds vs p q → Left whole o ws q
  left_more {vs = vs} {ws = ws} e h a =
      record { put = h.put ++ vs; parts = h.parts ∙ ap (λ (rest : List ℕ). h.put ++ rest) e ∙ sym (append_assoc h.put vs ws); adds = adds_both h.adds a }

  pub left_none : {rest : List ℕ} {p : Output} → rest ≡ [] → Left whole o rest p → Adds whole o p
  left_none e h = adds_same (sym (h.parts ∙ ap (λ (rest : List ℕ). h.put ++ rest) e ∙ append-nil h.put)) h.adds

  -- there is room for what comes next
  pub left_room : (vs ws : List ℕ) {rest : List ℕ} {p : Output} → rest ≡ vs ++ ws → Left whole o rest p → HasRoom (length whole) o → HasRoom (length vs) p
  left_room vs ws {rest = rest} e h room =
      omega (arith, room_behind rest h.adds (subst (λ (all : List ℕ). HasRoom (length all) o) h.parts room), ap length e, length-append vs ws)

-- ---- a byte of a name

module _ (b : ℕ) where
  pub escaped_backslash : b ≡ code "\\" → text "\\\\" ≡ escaped b
  escaped_backslash e = ap escaped (sym e)

  module _ (other : b ≡ code "\\" → ⊥) where
    pub escaped-plain : 0x20 ≤ b → b < 0x7F → b ∷ [] ≡ escaped b
    escaped-plain low high = let most : b ≤ 0x7E = omega arith in simp (ne_eqb _ _ other, le-leb _ _ low, le-leb _ _ most)

    pub escaped_digits : (b < 0x20) ⊎ (0x7F ≤ b) → text "\\x" ++ hex (b ∷ []) ≡ escaped b
    escaped_digits (inl low) = simp (ne_eqb _ _ other, lt-leb _ _ low)
    escaped_digits (inr high) = let past : 0x7E < b = omega arith in simp (ne_eqb _ _ other, lt-leb _ _ past, and-false)

  length-escaped : length (escaped b) ≤ 4
  length-escaped =
      either (eqb b (code "\\")) (λ t. rw t (omega arith))
      (λ f.
      either (leb 0x20 b)
      (λ t. either (leb b 0x7E) (λ u. rw (f, t, u) (omega arith)) (λ u. rw (f, t, u) (omega (arith, length-hex (b ∷ [])))))
      (λ t. rw (f, t) (omega (arith, length-hex (b ∷ [])))))

-- ---- a name byte by byte

pub escaped_next : (name : List ℕ) (i : ℕ) → i < length name → escaped_name (drop i name) ≡ escaped (get_or name i 0) ++ escaped_name (drop (i + 1) name)
unfolding escaped_name flat_map
escaped_next name i h = rw (add-one i) (ap escaped_name (drop-cons name i 0 h))

pub escaped_none : (name : List ℕ) (i : ℕ) → length name ≤ i → escaped_name (drop i name) ≡ []
unfolding escaped_name flat_map
escaped_none name i h = ap escaped_name (drop_of_length-le name h)

pub text_none : (name : List ℕ) → length name ≡ 0 → [] ≡ name_text name
text_none name e = rw (eq-eqb _ _ e)

pub text_some : (name : List ℕ) → (length name ≡ 0 → ⊥) → text " " ++ escaped_name name ≡ name_text name
text_some name e = rw (ne_eqb _ _ e)

pub line_parts : (n : ℕ) (name : List ℕ) → text "name " ++ (decimal n ++ (name_text name ++ newline)) ≡ name_line n name
unfolding name_line
line_parts n name = refl

pub length-line : (n : ℕ) (name : List ℕ) → length (name_line n name) ≡ 5 + length (decimal n) + length (name_text name) + 1
unfolding name_line
length-line n name = omega (arith, length-append (decimal n) (name_text name ++ newline), length-append (name_text name) newline)

length_escapes : (name : List ℕ) → length (escaped_name name) ≤ 4 * length name
unfolding escaped_name flat_map
length_escapes [] = omega arith
length_escapes (b ∷ name) = omega (arith, length-append (escaped b) (escaped_name name), length-escaped b, length_escapes name)

length-text : (name : List ℕ) → length (name_text name) ≤ 1 + 4 * length name
length-text name = either (eqb (length name) 0) (λ t. rw t (omega arith)) (λ t. rw t (omega (arith, length_escapes name)))

-- ---- the names of a section one by one

module _ (xs : List ℕ) where
  pub place_first : head_bytes ≡ provider_place xs 0
  unfolding providers
  place_first = refl

  module _ (n place : ℕ) (f : standing xs ≡ Ok InForce) (h : n < providers_in xs) (e : place ≡ provider_place xs n) where
    pub name-inside : place + 1 + get_or xs place 0 ≤ length xs
    name-inside = rw e (omega (arith, (provider_there xs n f h).1))

    pub place_passed : provider xs place ≡ Ok (place_of (provider xs place))
    place_passed = rw e (provider_passed xs n f h).1

    pub place_next : place_of (provider xs place) ≡ provider_place xs (n + 1)
    place_next = rw (e, add-one n) (ap place_of (sym (providers_snoc xs n head_bytes ∙ then_there (provider xs) (provider_there xs n f h).0)))

  pub names_next : (n count place : ℕ) → n < count → name_lines n (names_from xs (count - n) place) ≡ name_line n (take (place + 1 + get_or xs place 0 - (place + 1)) (drop (place + 1) xs)) ++ name_lines (n + 1) (names_from xs (count - (n + 1)) (place_of (provider xs place)))
  unfolding name_lines names_from
  names_next n count place h =
      let more : count - n ≡ suc (count - suc n) = omega arith in
      let bytes : place + 1 + get_or xs place 0 - (place + 1) ≡ get_or xs place 0 = omega arith in
      rw (more, bytes, add-one n)

  pub names_none : (n count place : ℕ) → count ≤ n → name_lines n (names_from xs (count - n) place) ≡ []
  unfolding name_lines names_from
  names_none n count place h = let none : count - n ≡ 0 = omega arith in rw none

length-lines : (n : ℕ) (names : List (List ℕ)) → n + length names < 1000 → length (name_lines n names) ≤ 10 * length names + 4 * total names
unfolding name_lines
length-lines n [] h = omega arith
length-lines n (name ∷ more) h =
    omega (
      arith,
      length-append (name_line n name) (name_lines (suc n) more),
      length-line n name,
      length-decimal 2 n (omega arith),
      length-text name,
      length-lines (suc n) more (omega arith),
    )

pub names_fit : (xs : List ℕ) → standing xs ≡ Ok InForce → get_or xs 8 0 < 256 → length (name_lines 0 (names_in xs)) ≤ 255 * 10 + 4 * longest_section
unfolding loops
names_fit xs f byte =
    let p = in_force_passes f in
    let n : ℕ = providers_in xs in
    let walk = (then_goes (providers xs n head_bytes) (counted xs) p.ends).0 in
    let end : ℕ = place_of (providers xs n head_bytes) in
    omega (
      arith,
      length-lines 0 (names_in xs) (omega (arith, length-names xs)),
      length-names xs,
      names_room xs n head_bytes end p.head walk,
      walk_within (providers-inside xs n head_bytes p.head) walk,
      passes-longest p,
    )

-- ---- a refusal

pub number_small : (f : Refusal) → number_of f ≤ 23
number_small BadLength = omega arith
number_small OtherProtocol = omega arith
number_small NumberAboveLast = omega arith
number_small (RunsOver at) = omega arith

length_refusal : (f : Refusal) → offset_of f < 2 ^ 64 → length (refusal_line f) ≤ 31
length_refusal f h =
    omega (arith, length-append (text "SE ") (refused_with 23 (number_of f) (offset_of f)), length_refused 23 (number_of f) (offset_of f) (omega (arith, number_small f)) h)

-- ---- every section's lines fit, where the numbers in its answer and the count of its names are of 16 bits and of eight

abbrev pub Small : Result Answer Refusal → Type 0
Small (Ok NotOurs) = Unit {0}
Small (Ok NotYet) = Unit {0}
Small (Err f) = offset_of f < 2 ^ 16
Small (Ok (Noted missing)) = missing < 2 ^ 16
Small (Ok (Repeat missing)) = missing < 2 ^ 16

pub lines_fit : (answer : Result Answer Refusal) (xs : List ℕ) → NamesHad answer xs → Small answer → get_or xs 8 0 < 256 → length (section_lines answer xs) ≤ longest_lines
unfolding answer_line
lines_fit (Ok NotOurs) xs had small byte = omega arith
lines_fit (Ok NotYet) xs had small byte = omega arith
lines_fit (Err f) xs had small byte = omega (arith, length-append (refusal_line f) [], length_refusal f (omega arith))
lines_fit (Ok (Noted missing)) xs had small byte =
    omega (arith, length-append (text "SE 0 missing " ++ numbered missing) (name_lines 0 (names_in xs)), length-numbered 4 missing (omega arith), names_fit xs had byte)
lines_fit (Ok (Repeat missing)) xs had small byte = omega (arith, length-append (text "SE 0 repeat missing " ++ numbered missing) [], length-numbered 4 missing (omega arith))

-- ---- what the functions' goals are closed by

pub ruleset of_names = (name-inside, head_there)
