-- What a writing comes to where register and tables stand for a solution. Assumes nothing.
use Rattle.std.proofs.Common.{◌≡◌, ℕ, ◌≤◌, Bool, true, false, cond, leb, List, length, Some, None, Ok, Err, Result, sym, refl, ap, ◌∙◌, subst, arith}
use Rattle.copies.specs.Copy.{fair_copy}
use Rattle.copies.specs.Lengths.{copy_length}
use Rattle.copies.specs.Measures.{countable, measured}
use Rattle.copies.specs.Writes.{Writes as Copies, within}
use Rattle.copy_laws.proofs.CopyLines.{copy_written}
use Rattle.copy_laws.specs.CopyLaws.{Writable}
use Rattle.media.specs.declared.Full.{Full}
use Rattle.model.proofs.Laying.{shown_is, stands_own}
use Rattle.model.specs.Edits.{unplaced, with_head}
use Rattle.model.specs.Solutions.{Solution}
use Rattle.model.specs.States.{Stands, State, allowed, own}
use Rattle.model.specs.Steps.{shown}
use Rattle.model.specs.declared.counts.Counts.{Counts}
use Rattle.headings.specs.declared.headers.Head.{Head}
use Rattle.refusals.specs.declared.Fault.{Fault}
use Rattle.refusals.specs.declared.Fault.TheVariants.{MediumTooSmall, NoHead, TableLengths}
use Rattle.register.specs.Writing.{Writes, written, written_by}
use Rattle.std.proofs.lemmas.Bool.{and_from, and_parts, both_ways, le-leb, leb-true}
use Rattle.std.specs.Result.{result_unwrap_or}
use Rattle.tables.specs.Rows.{plain}
use Rattle.triangle.proofs.Tri.{tri_bound}

-- tables of other lengths
pub write_strange : (x : State) (before : List ℕ) (room : ℕ) → own x ≡ false → Writes x before room (unplaced (Err TableLengths)) before
write_strange x before room e = record {
  strange = λ _. (refl, refl);
  answers = λ s st. absurd (both_ways (own x) e (stands_own x s st));
  leaves = λ s st. absurd (both_ways (own x) e (stands_own x s st));
}

-- no head
pub write_headless : (x : State) (before : List ℕ) (room : ℕ) → own x ≡ true → x.head ≡ None → Writes x before room (unplaced (Err NoHead)) before
write_headless x before room o e = record {
  strange = λ n. absurd (both_ways (own x) n o);
  answers = λ s st. ap (λ h. unplaced (plain (written_by h s room))) (sym e ∙ ap (λ y. y.head) st.laid_out);
  leaves = λ s st. ap (λ h. result_unwrap_or (written_by h s room) before) (sym e ∙ ap (λ y. y.head) st.laid_out);
}

-- the limits of each sort, of the places that a register may be made over
limits : (P : Counts) → allowed P ≡ true → (P.sites ≤ 1000) × (P.spans ≤ 2000) × (P.estimates ≤ 2000) × (P.aprioris ≤ 2000)
limits P h =
    let one = and_parts (leb P.sites 1000) _ h in
    let two = and_parts (leb P.spans 2000) _ one.1 in
    let three = and_parts (leb P.estimates 2000) (leb P.aprioris 2000) two.1 in
    (leb-true _ _ one.0, leb-true _ _ two.0, leb-true _ _ three.0, leb-true _ _ three.1)

pub few-used : (x : State) (s : Solution) → Stands x s → x.used.estimates ≤ 2000
few-used x s st =
    let l = limits x.places st.limits in
    let f = st.fits.estimates in
    let e : x.used.estimates ≡ length s.estimates = ap (λ y. y.used.estimates) st.laid_out in
    omega (arith, l.2)

module _ (x : State) (s : Solution) (st : Stands x s) (h : Head) (held : x.head ≡ Some h) where
  the_head : s.head ≡ Some h
  the_head = sym (ap (λ y. y.head) st.laid_out) ∙ held

  -- what the used places show under that head is the solution
  shows : with_head (shown x) (Some h) ≡ s
  shows = ap (λ t. with_head t (Some h)) (shown_is x s st) ∙ ap (λ k. with_head s k) (sym the_head)

  writable : Writable h s
  writable = record { head = the_head; kept = st.kept; few = (x.places, (st.limits, st.fits)) }

  counts : countable s ≡ true
  counts =
      let l = limits x.places st.limits in
      let f = st.fits in
      let few : length s.estimates ≤ 2000 = omega (arith, l.2, f.estimates) in
      let cells : length s.cells ≤ 1000000000 = omega (arith, st.kept.ordered.whole, tri_bound (length s.estimates) few) in
      let sites : length s.sites ≤ 1000000000 = omega (arith, l.0, f.sites) in
      let spans : length s.spans ≤ 1000000000 = omega (arith, l.1, f.spans) in
      let estimates : length s.estimates ≤ 1000000000 = omega (arith, few) in
      let aprioris : length s.aprioris ≤ 1000000000 = omega (arith, l.3, f.aprioris) in
      and_from _ _ (le-leb _ _ sites) (and_from _ _ (le-leb _ _ spans) (and_from _ _ (le-leb _ _ estimates) (and_from _ _ (le-leb _ _ aprioris) (le-leb _ _ cells))))

  copy_length_lem : length (fair_copy h s) ≡ copy_length s
  copy_length_lem = ap length (sym (copy_written h s writable).0) ∙ (copy_written h s writable).1

  -- the measure is that of the copy
  measures : (room : ℕ) → within room (measured s) ≡ leb (length (fair_copy h s)) room
  measures room = ap (λ b. within room (cond b (Some (copy_length s)) None)) counts ∙ ap (λ n. leb n room) (sym copy_length_lem)

  ruled : (room : ℕ) (b : Bool) → leb (length (fair_copy h s)) room ≡ b → written s room ≡ cond b (Ok (fair_copy h s)) (Err MediumTooSmall)
  ruled room b e = ap (λ k. written_by k s room) the_head ∙ ap (λ t. cond t (Ok (fair_copy h s)) (Err MediumTooSmall)) e

  pub copied_in : (before after : List ℕ) (room left : ℕ) → Copies before room h (with_head (shown x) (Some h)) (Ok tt) after left → Ok after ≡ written s room
  copied_in before after room left w = by_measure (leb (length (fair_copy h s)) room) refl
    where
      c : Copies before room h s (Ok tt) after left
      c = subst (λ t. Copies before room h t (Ok tt) after left) shows w

      by_measure : (b : Bool) → leb (length (fair_copy h s)) room ≡ b → Ok after ≡ written s room
      by_measure true e =
          let done = c.written (measures room ∙ e) st.kept.ordered.whole (copy_written h s writable).1 in
          ap Ok (done.1 ∙ (copy_written h s writable).0) ∙ sym (ruled room true e)
      by_measure false e =
          let refused = (c.refused (measures room ∙ e)).0 in
          let z : ◌≡◌ {A = ℕ} 0 1 = cc in
          absurd (omega arith)

  pub kept_out : (before after : List ℕ) (room left : ℕ) (f : Full) → Copies before room h (with_head (shown x) (Some h)) (Err f) after left
      → (Err MediumTooSmall ≡ written s room) × (after ≡ before)
  kept_out before after room left f w = by_measure (leb (length (fair_copy h s)) room) refl
    where
      c : Copies before room h s (Err f) after left
      c = subst (λ t. Copies before room h t (Err f) after left) shows w

      by_measure : (b : Bool) → leb (length (fair_copy h s)) room ≡ b → (Err MediumTooSmall ≡ written s room) × (after ≡ before)
      by_measure true e =
          let done = (c.written (measures room ∙ e) st.kept.ordered.whole (copy_written h s writable).1).0 in
          let z : ◌≡◌ {A = ℕ} 0 1 = cc in
          absurd (omega arith)
      by_measure false e = (sym (ruled room false e), (c.refused (measures room ∙ e)).1)

-- a head, and a medium that can hold the copy
pub write_granted : (x : State) (h : Head) (a : Result (Unit {0}) Full) (before after : List ℕ) (room left : ℕ) → own x ≡ true → x.head ≡ Some h → a ≡ Ok tt
    → (x.used.estimates ≤ 2000 → Copies before room h (with_head (shown x) (Some h)) a after left) → Writes x before room (unplaced (Ok tt)) after
write_granted x h a before after room left o e g w =
    let copied = λ (s : Solution) (st : Stands x s). copied_in x s st h e before after room left (subst (λ r. Copies before room h (with_head (shown x) (Some h)) r after left) g (w (few-used x s st))) in
    record {
      strange = λ n. absurd (both_ways (own x) n o);
      answers = λ s st. ap (λ r. unplaced (plain r)) (copied s st);
      leaves = λ s st. ap (λ r. result_unwrap_or r before) (copied s st);
    }

-- a head, and a medium that cannot hold the copy: b is what the caller is told
pub write_refused : (x : State) (h : Head) (f : Full) (a : Result (Unit {0}) Full) (b : Result (Unit {0}) Fault) (before after : List ℕ) (room left : ℕ) → own x ≡ true → x.head ≡ Some h
    → a ≡ Err f → b ≡ Err MediumTooSmall
    → (x.used.estimates ≤ 2000 → Copies before room h (with_head (shown x) (Some h)) a after left) → Writes x before room (unplaced b) after
write_refused x h f a b before after room left o e g m w =
    let kept = λ (s : Solution) (st : Stands x s). kept_out x s st h e before after room left f (subst (λ r. Copies before room h (with_head (shown x) (Some h)) r after left) g (w (few-used x s st))) in
    record {
      strange = λ n. absurd (both_ways (own x) n o);
      answers = λ s st. ap unplaced (m ∙ ap plain (kept s st).0);
      leaves = λ s st. (kept s st).1 ∙ ap (λ r. result_unwrap_or r before) (kept s st).0;
    }
