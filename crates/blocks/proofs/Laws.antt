-- Laws of moving bytes, of what follows at a place, and of a state between two blocks. Assumes nothing.
use mathlib.Core.Path.{◌≡◌, refl, sym, ap, ap₂, subst, ◌∙◌}
use mathlib.Core.Bool.{Bool, true, false, cond, true≢false}
use mathlib.Core.List.{List, [], ◌∷◌, ◌++◌, append-nil}
use Rattle.std.specs.Prelude.{Result, Ok, Err}
use mathlib.Core.Logic.{◌⊎◌, inl, inr, ⊎_elim}
use Prim.Native.Nat.{ℕ, ◌+◌, ◌-◌, ◌≤◌, ◌<◌}
use native.Mathlib.Nat.{sub-zero}
use native.Mathlib.Numerals.{add-one}
use native.Mathlib.Omega.{arith}
use lib.Dec.{T}
use Rattle.octets.specs.Checks.{among}
use lib.ListN.{length, get_or, take, drop, set, length-drop, take-append-drop, drop_of_length-le}
use lib.Seq.{take-suc, take-suc-set, take-take, take_all, take_at, length-take-le, length-slice, drop-set-lt, drop-drop, get_or-drop, length-sets, sets-eq}
use Rattle.text.specs.Text.{Put}
use Rattle.records.specs.declared.Entry.{Entry}
use Rattle.records.specs.declared.Entry.TheVariants.{End, Whole, Unknown, Cut}
use Rattle.records.specs.Records.{Forms, entry_in, is_whole, end_number, last_line, Record}
use Rattle.records.specs.Transcripts.{Program, filled}
use Rattle.records.proofs.Counted.{drop-take}
use Rattle.records.proofs.Transcripts.{filled-read, filled_keeps}
use Rattle.manners.specs.declared.Came.{Came}
use Rattle.manners.specs.declared.Came.TheVariants.{Bytes}
use Rattle.manners.specs.declared.Came.TheVariants.{End as CameEnd, Failed as CameFailed}
use Rattle.manners.specs.declared.Unsent.{Unsent}
use Rattle.manners.specs.declared.Unsent.TheVariants.{Gone, Failed}
use Rattle.manners.specs.declared.Ending.{Ending}
use Rattle.manners.specs.declared.Ending.TheVariants.{Over, Spent}
use Rattle.manners.specs.declared.Ending.TheVariants.{Unheard as EndUnheard, NotRead as EndNotRead, NotWritten as EndNotWritten}
use Rattle.manners.specs.Manners.{bytes_in, Room, status_of}
use Rattle.blocks.specs.declared.Step.{Step}
use Rattle.blocks.specs.declared.Step.TheVariants.{Next, Last, NotRead, Unheard, NotWritten}
use Rattle.blocks.specs.declared.Unread.{Unread}
use Rattle.blocks.specs.Blocks.{most_turns, unread, step_after, Stays, Brings, Refilled, Advances, Follows, Proceeds, TurnSays, Concludes, Concluded, Settles, Ends, run_statuses}

-- ---- a byte moved down from the place from + i to the place i

module _ (l m : List ℕ) (from i : ℕ) (inside : from + i < length m) (long : length l ≡ length m) (rest : drop i l ≡ drop i m) where
  byte-kept : get_or l (from + i) 0 ≡ get_or m (from + i) 0
  byte-kept =
      let swap : from + i ≡ i + from = omega arith in
      rw swap (sym (get_or-drop i l from 0) ∙ ap (λ (t : List ℕ). get_or t from 0) rest ∙ get_or-drop i m from 0)

  pub moved_rest : drop (i + 1) (set l i (get_or l (from + i) 0)) ≡ drop (i + 1) m
  moved_rest =
      drop-set-lt (i + 1) l i (get_or l (from + i) 0) (omega arith)
      ∙ sym (drop-drop 1 i l)
      ∙ ap (drop 1) rest
      ∙ drop-drop 1 i m

  pub moved_front : take i l ≡ take i (drop from m) → take (i + 1) (set l i (get_or l (from + i) 0)) ≡ take (i + 1) (drop from m)
  moved_front front =
      let here : i < length l = omega arith in
      let there : i < length (drop from m) = omega (arith, length-drop from m) in
      rw (add-one i)
      (take-suc-set l i (get_or l (from + i) 0) here
      ∙ ap₂ (λ (t : List ℕ) (b : ℕ). t ++ (b ∷ [])) front (byte-kept ∙ sym (get_or-drop from m i 0))
      ∙ sym (take-suc (drop from m) i 0 there))

-- ---- a text at the start of an output

module _ (text out after : List ℕ) (end : ℕ) (p : Put text out 0 after end) (fits : length text ≤ length out) where
  pub put_inside : end ≤ length after
  put_inside = omega (arith, p.0, ap length p.1, length-sets out 0 text)

  pub put_front : take (length text) after ≡ text
  put_front = ap (take (length text)) (p.1 ∙ sets-eq text out 0 (omega arith)) ∙ take_at text _ (length text) refl

-- ---- the unread part of a block

module _ (block : List ℕ) (at have : ℕ) (ahead : at ≤ have) (inside : have ≤ length block) where
  pub unread_front : drop at (take have block) ≡ unread block at have
  unread_front =
      let e : have ≡ at + (have - at) = omega arith in
      ap (λ (n : ℕ). drop at (take n block)) e ∙ drop-take at (have - at) block

  pub unread-length : length (unread block at have) ≡ have - at
  unread-length =
      let room : have - at ≤ length (drop at block) = omega (arith, length-drop at block) in
      length-take-le (have - at) (drop at block) room

-- ---- a read behind what was moved down

-- by what came, so many bytes being inside the block
brings_came : (block have : ℕ) (came : Came) (brought : List ℕ) → Room block have came → length brought ≡ bytes_in came → Brings brought (step_after came)
brings_came block have (Bytes n) brought room e = omega (arith, e, room.0)
brings_came block have CameEnd brought room e = e
brings_came block have CameFailed brought room e = e

pub came_inside : (block have : ℕ) (came : Came) → have ≤ block → Room block have came → have + bytes_in came ≤ block
came_inside block have (Bytes n) h room = room.1
came_inside block have CameEnd h room = omega arith
came_inside block have CameFailed h room = omega arith

module _ (old moved new : List ℕ) (at have left : ℕ) (came : Came) (u : Unread) (room : have - at < length old) (count : left ≡ have - at) (move : take (have - at) moved ≡ unread old at have) (kept : take left new ≡ take left moved) (long : length new ≡ length moved) (fits : Room (length moved) left came) (stands : (u.at ≡ 0) × (u.have ≡ left + bytes_in came) × (u.step ≡ step_after came)) where
  pub refilled : left ≤ length moved → Refilled old at have new u
  refilled most =
      let more : ℕ = left + bytes_in came in
      let inside : more ≤ length new = omega (arith, came_inside (length moved) left came most fits) in
      let rest : List ℕ = drop left (take more new) in
      record {
        brought = rest;
        room = omega arith;
        start = stands.0;
        inside = rw stands.1 inside;
        bytes =
            ap (λ (n : ℕ). take n new) (sub-zero u.have ∙ stands.1)
            ∙ sym (take-append-drop left (take more new))
            ∙ ap (λ (t : List ℕ). t ++ rest) (take-take left more new (omega arith) ∙ kept ∙ ap (λ (n : ℕ). take n moved) count ∙ move);
        brings = rw stands.2 (brings_came (length moved) left came rest fits (omega (arith, length-slice left more new inside)));
      }

-- ---- what follows at a place, by what stands there

pub stays : (old : List ℕ) (at have : ℕ) (step : Step) (u : Unread) → (u.at ≡ at) × (u.have ≡ have) × (u.step ≡ step) → Stays old at have step old u
stays old at have step u e = (refl, rw (← e.0, ← e.1, ← e.2) refl)

pub advances : {f : Entry} (old : List ℕ) (at have : ℕ) (new : List ℕ) (u : Unread) (e : Entry) → e ≡ f → Advances f old at have new u → Advances e old at have new u
advances old at have new u e is = subst (λ (k : Entry). Advances k old at have new u) (sym is)

-- what `entry_at` says of a place in the filled part of a block is so of what is unread there
module _ (forms : Forms) (old : List ℕ) (at have : ℕ) (ahead : at ≤ have) (inside : have ≤ length old) (e : Entry) (stands : e ≡ entry_in forms (drop at (take have old))) where
  pub stands-unread : e ≡ entry_in forms (unread old at have)
  stands-unread = stands ∙ ap (entry_in forms) (unread_front old at have ahead inside)

  pub follows : (new : List ℕ) (u : Unread) → Advances e old at have new u → Follows forms old at have new u
  follows new u = subst (λ (k : Entry). Advances k old at have new u) stands-unread

-- the input is at its end, or could not be read
abbrev pub no_more : Step → Bool
no_more Next = false
no_more Last = true
no_more NotRead = true
no_more Unheard = false
no_more NotWritten = false

stays_whole : (e : Entry) → no_more (cond (is_whole e) Next Last) ≡ true → is_whole e ≡ false
stays_whole (Whole n) t = absurd (true≢false (sym t))
stays_whole End t = refl
stays_whole Unknown t = refl
stays_whole Cut t = refl

brings_none : (brought : List ℕ) (step : Step) → Brings brought step → no_more step ≡ true → length brought ≡ 0
brings_none brought Next b t = absurd (true≢false (sym t))
brings_none brought Last b t = b
brings_none brought NotRead b t = b
brings_none brought Unheard b t = absurd b
brings_none brought NotWritten b t = absurd b

-- a place stays, or what stands there is no whole record and a read follows
module _ (old : List ℕ) (at have : ℕ) (new : List ℕ) (u : Unread) where
  advances_cases : (e : Entry) → Advances e old at have new u → Stays old at have (cond (is_whole e) Next Last) new u ⊎ ((is_whole e ≡ false) × Refilled old at have new u)
  advances_cases (Whole n) g = inl g
  advances_cases Unknown g = inl g
  advances_cases End g = inr (refl, g)
  advances_cases Cut g = inr (refl, g)

  pub stays_place : (step : Step) → Stays old at have step new u → at ≤ have → have ≤ length old → (u.at ≤ u.have) × (u.have ≤ length new)
  stays_place step g ahead inside = rw (g.0, g.1) (ahead, inside)

  module _ (forms : Forms) (f : Follows forms old at have new u) where
    follows_place : at ≤ have → have ≤ length old → (u.at ≤ u.have) × (u.have ≤ length new)
    follows_place ahead inside =
        ⊎_elim (λ g. stays_place _ g ahead inside) (λ g. omega (arith, g.1.start, g.1.inside)) (advances_cases (entry_in forms (unread old at have)) f)

    follows_over : no_more u.step ≡ true → is_whole (entry_in forms (unread new u.at u.have)) ≡ false
    follows_over over =
        ⊎_elim (λ g. rw (g.0, g.1) (stays_whole (entry_in forms (unread old at have)) (rw g.1 at over)))
        (λ g.
        let none : g.1.brought ≡ [] = drop_of_length-le g.1.brought {i = 0} (omega (arith, brings_none g.1.brought u.step g.1.brings over)) in
        rw (g.1.start, g.1.bytes, none, append-nil) g.0)
        (advances_cases (entry_in forms (unread old at have)) f)

-- by what came of a write
pub proceeds : {f : Result (Unit {0}) Unsent} (e : Entry) (old : List ℕ) (at next have : ℕ) (new : List ℕ) (u : Unread) (sent : Result (Unit {0}) Unsent) → sent ≡ f → Proceeds f e old at next have new u → Proceeds sent e old at next have new u
proceeds e old at next have new u sent is = subst (λ (k : Result (Unit {0}) Unsent). Proceeds k e old at next have new u) (sym is)

-- ---- a turn: the unread part xs of a block was filled

module _ {S : Type 0} (p : Program S) where
  -- what a program's `fill` says, with so much room
  abbrev pub Fills : ℕ → S → List ℕ → List ℕ → S → ℕ → List ℕ → ℕ → Type 0
  Fills room s xs out t read after wrote =
      let f = filled p room s xs in
      (t ≡ f.state) × (read ≡ f.read) × Put f.text out 0 after wrote

module _ {S : Type 0} (p : Program S) (room : ℕ) (s t : S) (xs out after : List ℕ) (read wrote : ℕ) (says : Fills p room s xs out t read after wrote) where
  pub filled_before : (at have : ℕ) → length xs ≡ have - at → at ≤ have → at + read ≤ have
  filled_before at have e h = omega (arith, says.1, filled-read p room s xs)

  module _ (old : List ℕ) (at have : ℕ) (new : List ℕ) (u : Unread) where
    -- what stands behind the records, and what came of writing them
    pub turn_says : (e : Entry) → e ≡ entry_in p.forms (unread old (at + read) have) → (sent : Result (Unit {0}) Unsent) → Proceeds sent e old at (at + read) have new u → TurnSays p.forms (filled p room s xs) old at have out t new after wrote u
    turn_says e stands sent g = record { state = says.0; text = says.2; place = place sent g }
      where
        place : (sent : Result (Unit {0}) Unsent) → Proceeds sent e old at (at + read) have new u → Follows p.forms old (at + (filled p room s xs).read) have new u ⊎ (Stays old at have Unheard new u ⊎ Stays old at have NotWritten new u)
        place (Ok done) g = inl (subst (λ (n : ℕ). Follows p.forms old (at + n) have new u) says.1 (subst (λ (k : Entry). Advances k old (at + read) have new u) stands g))
        place (Err Gone) g = inr (inl g)
        place (Err Failed) g = inr (inr g)

-- ---- after a turn the state is in order, the unread part is inside the block, and where no more comes no whole record stands

pub record Keeps {S : Type 0} (Ready : S → Type 0) (forms : Forms) (t : S) (new : List ℕ) (u : Unread) : Type 0 where
  pub ready : Ready t
  pub ahead : u.at ≤ u.have
  pub inside : u.have ≤ length new
  pub over : no_more u.step ≡ true → is_whole (entry_in forms (unread new u.at u.have)) ≡ false

module _ {S : Type 0} (p : Program S) (Ready : S → Type 0) (keeps : (s : S) (r : Record) → Ready s → Ready (p.next s r)) where
  pub turn_keeps : (room : ℕ) (s : S) (old : List ℕ) (at have : ℕ) (before : List ℕ) (t : S) (new after : List ℕ) (wrote : ℕ) (u : Unread) → TurnSays p.forms (filled p room s (unread old at have)) old at have before t new after wrote u → Ready s → at ≤ have → have ≤ length old → Keeps Ready p.forms t new u
  turn_keeps room s old at have before t new after wrote u says in_order_lem ahead inside =
      let xs : List ℕ = unread old at have in
      let next : ℕ = at + (filled p room s xs).read in
      let most : next ≤ have = omega (arith, filled-read p room s xs, unread-length old at have ahead inside) in
      let place : (u.at ≤ u.have) × (u.have ≤ length new) =
      ⊎_elim (λ g. follows_place old next have new u p.forms g most inside) (⊎_elim (stuck Unheard) (stuck NotWritten)) says.place in
      record {
        ready = subst Ready (sym says.state) (filled_keeps p Ready keeps room s xs in_order_lem);
        ahead = place.0;
        inside = place.1;
        over = λ e. ⊎_elim (λ g. follows_over old next have new u p.forms g e) (⊎_elim (λ g. absurd (true≢false (sym (rw g.1 at e)))) (λ g. absurd (true≢false (sym (rw g.1 at e))))) says.place;
      }
    where
      stuck : (step : Step) → Stays old at have step new u → (u.at ≤ u.have) × (u.have ≤ length new)
      stuck step g = stays_place old at have new u step g ahead inside

-- ---- the end of a run

-- where it ends at a step
pub concludes : {f : Step} (e : Entry) (r : Ending) (step : Step) → step ≡ f → Concludes f e r → Concludes step e r
concludes e r step is = subst (λ (k : Step). Concludes k e r) (sym is)

-- the last line being put
pub settles : (step : Step) (e : Entry) (out : List ℕ) (r : Ending) → Concludes step e r → take (length (last_line e)) out ≡ last_line e → Settles step e out r
settles Next e out r g line = g
settles Last e out r g line = (line, g)
settles NotRead e out r g line = g
settles Unheard e out r g line = g
settles NotWritten e out r g line = g

pub ends : (step : Step) (e : Entry) (turns : ℕ) (out : List ℕ) (r : Ending) → Settles step e out r → (no_more step ≡ true → is_whole e ≡ false) → (step ≡ Next → turns ≡ most_turns) → Ends r turns e out
ends Next e turns out r g over spent = rw g (spent refl)
ends Last e turns out r (line, inl g) over spent = rw g (over refl, refl, line)
ends Last e turns out r (line, inr (inl g)) over spent = rw g tt
ends Last e turns out r (line, inr (inr g)) over spent = rw g tt
ends NotRead e turns out r g over spent = rw g (over refl)
ends Unheard e turns out r g over spent = rw g tt
ends NotWritten e turns out r g over spent = rw g tt

-- whatever stands in the output
ended : (r : Ending) (turns : ℕ) (e : Entry) (out : List ℕ) → Ends r turns e out → Concluded r turns e
ended (Over n) turns e out g = (g.0, g.1)
ended EndNotRead turns e out g = g
ended EndUnheard turns e out g = tt
ended EndNotWritten turns e out g = tt
ended Spent turns e out g = g

pub concluded : (step : Step) (e : Entry) (turns : ℕ) (r : Ending) → Concludes step e r → (no_more step ≡ true → is_whole e ≡ false) → (step ≡ Next → turns ≡ most_turns) → Concluded r turns e
concluded step e turns r g over spent =
    let line : List ℕ = last_line e in
    ended r turns e line (ends step e turns line r (settles step e line r g (take_all (length line) line (omega arith))) over spent)

end_status : (e : Entry) → T (among run_statuses (end_number e))
end_status End = tt
end_status (Whole n) = tt
end_status Unknown = tt
end_status Cut = tt

pub concluded_status : (r : Ending) (turns : ℕ) (e : Entry) → Concluded r turns e → T (among run_statuses (status_of r))
concluded_status (Over n) turns e g = rw g.1 (end_status e)
concluded_status EndNotRead turns e g = tt
concluded_status EndUnheard turns e g = tt
concluded_status EndNotWritten turns e g = tt
concluded_status Spent turns e g = tt

pub ends_status : (r : Ending) (turns : ℕ) (e : Entry) (out : List ℕ) → Ends r turns e out → T (among run_statuses (status_of r))
ends_status r turns e out g = concluded_status r turns e (ended r turns e out g)
