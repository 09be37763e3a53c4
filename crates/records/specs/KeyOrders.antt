-- The orders of the keys are total, and those of the records are orders of their keys. Assumes nothing.
use Rattle.std.specs.Prelude.{◌≡◌, ℕ, List, [], ◌∷◌, Ok, Result, refl}
use Rattle.std.specs.declared.cmp.Ordering.{Ordering}
use Rattle.std.proofs.Common.{sym, ap, ◌∙◌}
use Rattle.fields.specs.declared.epochs.Epoch.{Epoch}
use Rattle.codes.proofs.Spellings.{codes_come_back}
use Rattle.codes.specs.Codes.{read_technique}
use Rattle.std.specs.Ordering.{ordering_then, nat_cmp}
use Rattle.codes.specs.Order.{TotalOrder, lex}
use Rattle.codes.proofs.Comparing.{lex_order, rank_order, then_order}
use Rattle.std.specs.Cmp.{IsTotalOrder}
use Rattle.std.proofs.lemmas.Cmp.{on_total}
use Rattle.records.specs.Keys.{site_key_order, solution_key_order}
use Rattle.records.specs.Sites.{site_order}
use Rattle.codes.specs.Codes.{technique_letter}
use Rattle.codes.specs.declared.letters.Technique.{Technique}
use Rattle.fields.specs.Epoch.{epoch_order}
use Rattle.fields.proofs.Stamps.{epochs_are_ordered}
use Rattle.records.specs.Spans.{span_key_order, span_order}
use Rattle.records.specs.Parameters.{parameter_key_order, parameter_order}
use Rattle.records.specs.declared.spans.SpanKey.{SpanKey}
use Rattle.records.specs.declared.spans.Span.{Span}
use Rattle.records.specs.declared.parameters.ParameterKey.{ParameterKey}
use Rattle.records.specs.declared.parameters.Parameter.{Parameter}
use Rattle.records.specs.declared.keys.SiteKey.{SiteKey}
use Rattle.records.specs.declared.keys.SolutionKey.{SolutionKey}
use Rattle.records.specs.declared.sites.Site.{Site}

-- a total order of keys is an order of what has them
pub order_of : {R K : Type 0} (key : R → K) (c : K → K → Ordering) → TotalOrder c → IsTotalOrder (λ x y. c (key x) (key y))
order_of key c o = on_total key (record { antisymm = o.flip; trans = o.trans; congr = λ x y z e. ap (λ t. c t z) (o.same x y e) })

pub site_keys : TotalOrder site_key_order
site_keys = then_order (λ (x : SiteKey). x.code) (λ x. x.point) lex lex lex_order lex_order
    (λ x y p q. ap (λ t. record { code = t; point = x.point }) p ∙ ap (λ t. record { code = y.code; point = t }) q)

pub solution_keys : TotalOrder solution_key_order
solution_keys = then_order (λ (x : SolutionKey). x.site) (λ x. x.solution) site_key_order lex site_keys lex_order
    (λ x y p q. ap (λ t. record { site = t; solution = x.solution }) p ∙ ap (λ t. record { site = y.site; solution = t }) q)

pub site_order_lem : IsTotalOrder site_order
site_order_lem = order_of (λ (x : Site). x.key) site_key_order site_keys

ok_same : {A : Type 0} {E : Type 0} (x y : A) → ◌≡◌ {A = Result A E} (Ok x) (Ok y) → x ≡ y
ok_same x y e = cc

-- a technique is known by its letter
letter-same : (t u : Technique) → technique_letter t ≡ technique_letter u → t ≡ u
letter-same t u e =
    let p : read_technique (technique_letter t ∷ []) ≡ Ok t = (codes_come_back.0 (technique_letter t ∷ []) t).1 refl in
    let q : read_technique (technique_letter u ∷ []) ≡ Ok u = (codes_come_back.0 (technique_letter u ∷ []) u).1 refl in
    ok_same t u (sym p ∙ ap (λ c. read_technique (c ∷ [])) e ∙ q)

letters : TotalOrder (λ (t u : Technique). nat_cmp (technique_letter t) (technique_letter u))
letters = record {
  flip = λ t u. rank_order.flip (technique_letter t) (technique_letter u);
  trans = λ t u v. rank_order.trans (technique_letter t) (technique_letter u) (technique_letter v);
  same = λ t u e. letter-same t u (rank_order.same (technique_letter t) (technique_letter u) e);
}

pub span_keys : TotalOrder span_key_order
span_keys = then_order (λ (x : SpanKey). x.at) (λ x. x.technique) solution_key_order (λ t u. nat_cmp (technique_letter t) (technique_letter u)) solution_keys letters
    (λ x y p q. ap (λ t. record { at = t; technique = x.technique }) p ∙ ap (λ t. record { at = y.at; technique = t }) q)

pub span_order_lem : IsTotalOrder span_order
span_order_lem = order_of (λ (x : Span). x.key) span_key_order span_keys

-- the name and the epoch, as one part of a key
name-epoch : TotalOrder (λ (x y : List ℕ × Epoch). ordering_then (lex x.0 y.0) (epoch_order x.1 y.1))
name-epoch = then_order (λ (x : List ℕ × Epoch). x.0) (λ x. x.1) lex epoch_order lex_order epochs_are_ordered
    (λ x y p q. ap (λ t. (t, x.1)) p ∙ ap (λ t. (y.0, t)) q)

pub parameter_keys : TotalOrder parameter_key_order
parameter_keys = then_order (λ (x : ParameterKey). x.at) (λ x. (x.name, x.epoch)) solution_key_order (λ x y. ordering_then (lex x.0 y.0) (epoch_order x.1 y.1)) solution_keys name-epoch
    (λ x y p q. ap (λ t. record { at = t; name = x.name; epoch = x.epoch }) p ∙ ap (λ t. record { at = y.at; name = t.0; epoch = t.1 }) q)

pub parameter_order_lem : IsTotalOrder parameter_order
parameter_order_lem = order_of (λ (x : Parameter). x.key) parameter_key_order parameter_keys
