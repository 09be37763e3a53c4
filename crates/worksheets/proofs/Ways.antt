-- A replay goes on from step to step.
use Rattle.std.proofs.Common.{◌≡◌, ℕ, ◌+◌, List, [], ◌∷◌, ◌++◌, Ok, Err, Result, sym, refl, ap, ◌∙◌, subst, inl, inr, append_assoc, arith}
use Rattle.model.specs.Edits.{Call, after, reply}
use Rattle.model.specs.Solutions.{Solution}
use Rattle.model.specs.States.{Obeys, Stands, State, counts_of, nothing}
use Rattle.model.specs.declared.counts.Counts.{Counts}
use Rattle.refusals.specs.declared.Fault.TheVariants.{TableLengths}
use Rattle.refusals.specs.declared.Refusal.{Refusal}
use Rattle.register.specs.Making.{Makes, fresh_register, lengths_of, makeable}
use Rattle.register.specs.Views.{SameSlices, view}
use Rattle.register.specs.declared.lent.Register.{Register}
use Rattle.register.specs.declared.lent.Tables.{Tables}
use Rattle.reports.specs.Refused.{refusal_line}
use Rattle.std.proofs.lemmas.List.{append-nil}
use Rattle.std.proofs.lemmas.Bool.{cases_Bool, cond-false, cond-true}
use Rattle.worksheets.specs.Commands.{read_command}
use Rattle.worksheets.specs.Prints.{Replays, answer_line, answers, finally, holds_line, replayed, sheet_report, unclear_line}
use Rattle.worksheets.specs.Replays.{Onward}
use Rattle.worksheets.specs.Sheets.{Done, Sheet, Then, Unclear, begun, sheet_from, sheet_of}

pub slices-on : (t u v : Tables) → SameSlices t u → SameSlices u v → SameSlices t v
slices-on t u v p q = record {
  sites = q.sites ∙ p.sites;
  spans = q.spans ∙ p.spans;
  estimates = q.estimates ∙ p.estimates;
  aprioris = q.aprioris ∙ p.aprioris;
  cells = q.cells ∙ p.cells;
  row = q.row ∙ p.row;
}

pub onward : (x y z : State) (u v w : Sheet) (a b c : List ℕ) → Onward x u a y v b → Onward y v b z w c → Onward x u a z w c
onward x y z u v w a b c p q = record {
  places = q.places ∙ p.places;
  goes = λ s e.
      let g = p.goes s e in
      let h = q.goes g.0 g.1 in
      let back = λ (P : Counts). (c ++ answers P h.0 w ≡ b ++ answers P g.0 v) × (finally P h.0 w ≡ finally P g.0 v) in
      let k : back x.places = subst back p.places (h.2, h.3) in
      (h.0, h.1, k.0 ∙ g.2, k.1 ∙ g.3);
}

-- a call was made, and its answer printed
pub called : (c : Call) (x y : State) (a : Result (Unit {0}) Refusal) (u w : Sheet) (out more : List ℕ) → Obeys c x a y → u ≡ Then c w → more ≡ out ++ answer_line a → Onward x u out y w more
called c x y a u w out more o e m = record {
  places = o.places;
  goes = λ s k. (
    after x.places s c,
    o.leaves s k,
    ap (λ (bs : List ℕ). bs ++ answers x.places (after x.places s c) w) (m ∙ ap (λ r. out ++ answer_line r) (o.answers s k))
        ∙ (append_assoc out (answer_line (reply x.places s c)) (answers x.places (after x.places s c) w) ∙ ap (λ (v : Sheet). out ++ answers x.places s v) (sym e)),
    ap (λ (v : Sheet). finally x.places s v) (sym e),
  );
}

pub unclear : (x : State) (n : ℕ) (u : Sheet) (out more : List ℕ) → u ≡ Unclear n → more ≡ out ++ unclear_line n → Onward x u out x Done more
unclear x n u out more e m = record {
  places = refl;
  goes = λ s k. (
    s,
    k,
    append-nil more ∙ (m ∙ ap (λ (v : Sheet). out ++ answers x.places s v) (sym e)),
    ap (λ (v : Sheet). finally x.places s v) (sym e),
  );
}

-- the first of the lines that are left
pub first_line_lem : (n m : ℕ) (l : List ℕ) (ls all : List (List ℕ)) → all ≡ l ∷ ls → m ≡ n + 1 → sheet_from (n + 1) 0 all ≡ begun m (read_command l) ls (λ k. sheet_from (m + 1) k ls)
first_line_lem n m l ls all e p = ap (sheet_from (n + 1) 0) e ∙ ap (λ (i : ℕ). begun i (read_command l) ls (λ k. sheet_from (i + 1) k ls)) (sym p)

-- a register that was just made, or was not
pub reported : (t u : Tables) (g : Register) (bs printed : List ℕ) (y : State) → Makes t (Ok g) u → Replays (sheet_of bs) (view g u) printed y → printed ≡ sheet_report t bs
reported t u g bs printed y m r = elim (cases_Bool (makeable t)) [
  | inl e ↦
      let made : Ok g ≡ Ok (fresh_register (lengths_of t)) = m.answer ∙ cond-true _ _ _ e in
      let same : fresh_register (lengths_of t) ≡ g = cc in
      let stands : Stands (view g u) nothing = subst (λ (h : Register). Stands (view h u) nothing) same (m.granted e) in
      r.prints nothing stands ∙ (ap (λ (h : Register). replayed h.places nothing (sheet_of bs)) (sym same) ∙ sym (cond-true _ _ _ e))
  | inr e ↦
      let none : ◌≡◌ {A = Result Register Refusal} (Ok g) (Err (record { fault = TableLengths; line = 0 })) = m.answer ∙ cond-false _ _ _ e in
      let z : ◌≡◌ {A = ℕ} 0 1 = cc in
      absurd (omega arith)
]

pub unmade : (t u : Tables) (r : Refusal) (bs : List ℕ) → Makes t (Err r) u → refusal_line r ≡ sheet_report t bs
unmade t u r bs m = elim (cases_Bool (makeable t)) [
  | inl e ↦
      let none : ◌≡◌ {A = Result Register Refusal} (Err r) (Ok (fresh_register (lengths_of t))) = m.answer ∙ cond-true _ _ _ e in
      let z : ◌≡◌ {A = ℕ} 0 1 = cc in
      absurd (omega arith)
  | inr e ↦
      let told : ◌≡◌ {A = Result Register Refusal} (Err r) (Err (record { fault = TableLengths; line = 0 })) = m.answer ∙ cond-false _ _ _ e in
      let same : r ≡ record { fault = TableLengths; line = 0 } = cc in
      ap refusal_line same ∙ sym (cond-false _ _ _ e)
]
