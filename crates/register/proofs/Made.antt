-- A register that is made over blanked tables stands for nothing. Assumes nothing.
use Rattle.std.proofs.Common.{◌≡◌, ℕ, true, cond, eqb, leb, length, replicate, Ok, Err, sym, ap, ◌∙◌, subst}
use Rattle.decimals.specs.Number.{zero_number}
use Rattle.model.proofs.Laying.{blank_state_lem, made_stands}
use Rattle.model.specs.States.{Stands, allowed, blank_state, nothing, own, triangular}
use Rattle.model.specs.declared.counts.Counts.{Counts}
use Rattle.refusals.specs.declared.Fault.TheVariants.{TableLengths}
use Rattle.register.specs.Making.{Makes, blanked, fresh_register, lengths_of, makeable}
use Rattle.register.specs.Views.{SameSlices, view}
use Rattle.register.specs.declared.lent.Register.{Register}
use Rattle.register.specs.declared.lent.Tables.{Tables}
use Rattle.std.proofs.lemmas.Bool.{and_from, and_parts, both_ways, eqb-true}
use Rattle.triangle.specs.Triangle.{tri}

module _ (t u : Tables) where
  abbrev P : Counts
  P = lengths_of t

  abbrev g : Register
  g = fresh_register P

  -- the triangle and the working row have just their places
  lengths : own (view g t) ≡ true → (length t.cells.now ≡ tri P.estimates) × (length t.row.now ≡ P.estimates)
  lengths o =
      let spans = (and_parts (eqb P.sites P.sites) _ o).1 in
      let estimates = (and_parts (eqb P.spans P.spans) _ spans).1 in
      let aprioris = (and_parts (eqb P.estimates P.estimates) _ estimates).1 in
      let cells = (and_parts (eqb P.aprioris P.aprioris) _ aprioris).1 in
      let parts = and_parts (triangular P.estimates (length t.cells.now)) (eqb (length t.row.now) P.estimates) cells in
      (eqb-true _ _ (and_parts (leb P.estimates 2000) _ parts.0).1, eqb-true _ _ parts.1)

  blank : own (view g t) ≡ true → blanked (view g t) ≡ blank_state P
  blank o =
      let e = lengths o in
      let cells = ap (λ n. replicate n zero_number) e.0 in
      let row = ap (λ (n : ℕ). replicate {A = ℕ} n 0) e.1 in
      λ i. record {
        places = P;
        used = g.used;
        head = g.head;
        sites = (blank_state P).sites;
        spans = (blank_state P).spans;
        estimates = (blank_state P).estimates;
        aprioris = (blank_state P).aprioris;
        cells = cells i;
        row = row i;
      }

  pub made : allowed P ≡ true → own (view g t) ≡ true → ((h : Register) → view h u ≡ blanked (view h t)) → SameSlices t u → Makes t (Ok g) u
  made a o b slices = record {
    answer = ap (λ m. cond m (Ok g) (Err (record { fault = TableLengths; line = 0 }))) (sym (and_from _ _ a o));
    granted = λ _. subst (λ x. Stands x nothing) (blank_state_lem P ∙ sym (b g ∙ blank o)) (made_stands P a);
    refused = λ n. absurd (both_ways (makeable t) n (and_from _ _ a o));
    slices = slices;
  }
