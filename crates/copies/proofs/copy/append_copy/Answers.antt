use Rattle.copies.proofs.Blocks.{all_lines, footer, from_aprioris, from_cells, from_estimates, from_sites, from_spans, walked_cells}
use Rattle.copies.proofs.Ends.{appends_as, appends_line, appends_stop, appends_then}
use Rattle.copies.proofs.copy.append_copy.Goals as goal
use Rattle.copies.specs.Copy.{block}
use Rattle.copies.specs.Measures.{solution_of}
use Rattle.std.proofs.Common.{codes, refl, ap}

pub returns-in_err-append_header : goal.returns-in_err-append_header
returns-in_err-append_header g c =
    let h = c.args.head.now in
    let s = solution_of h c.args.r.now in
    let p =
    appends_stop c.in_err-append_header.ensures c.from_residual.result (from_sites h s (walked_cells s)) in
    record { lines = all_lines h s p; kept = p.kept }

pub returns-in_err-append_block : goal.returns-in_err-append_block
returns-in_err-append_block g c =
    let h = c.args.head.now in
    let s = solution_of h c.args.r.now in
    let p =
    appends_then c.in_ok-append_header.ensures
    (appends_stop c.in_err-append_block.ensures c.from_residual-in_err-append_block.result (from_spans h s (walked_cells s))) in
    record { lines = all_lines h s p; kept = p.kept }

pub returns-in_err-append_block-2 : goal.returns-in_err-append_block-2
returns-in_err-append_block-2 g c =
    let h = c.args.head.now in
    let s = solution_of h c.args.r.now in
    let p =
    appends_then c.in_ok-append_header.ensures
    (appends_then c.in_ok-append_block.ensures
    (appends_stop c.in_err-append_block-2.ensures c.from_residual-in_err-append_block-2.result (from_estimates h s (walked_cells s)))) in
    record { lines = all_lines h s p; kept = p.kept }

pub returns-in_err-append_block-3 : goal.returns-in_err-append_block-3
returns-in_err-append_block-3 g c =
    let h = c.args.head.now in
    let s = solution_of h c.args.r.now in
    let p =
    appends_then c.in_ok-append_header.ensures
    (appends_then c.in_ok-append_block.ensures
    (appends_then c.in_ok-append_block-2.ensures
    (appends_stop c.in_err-append_block-3.ensures c.from_residual-in_err-append_block-3.result (from_aprioris h s (walked_cells s))))) in
    record { lines = all_lines h s p; kept = p.kept }

pub returns-in_err-append_block-4 : goal.returns-in_err-append_block-4
returns-in_err-append_block-4 g c =
    let h = c.args.head.now in
    let s = solution_of h c.args.r.now in
    let p =
    appends_then c.in_ok-append_header.ensures
    (appends_then c.in_ok-append_block.ensures
    (appends_then c.in_ok-append_block-2.ensures
    (appends_then c.in_ok-append_block-3.ensures
    (appends_stop c.in_err-append_block-4.ensures c.from_residual-in_err-append_block-4.result (from_cells h s (walked_cells s)))))) in
    record { lines = all_lines h s p; kept = p.kept }

pub returns-in_err-append_block-5 : goal.returns-in_err-append_block-5
returns-in_err-append_block-5 g c =
    let h = c.args.head.now in
    let s = solution_of h c.args.r.now in
    let p =
    appends_then c.in_ok-append_header.ensures
    (appends_then c.in_ok-append_block.ensures
    (appends_then c.in_ok-append_block-2.ensures
    (appends_then c.in_ok-append_block-3.ensures
    (appends_then c.in_ok-append_block-4.ensures
    (appends_stop (appends_as (ap (λ t. block t (walked_cells s)) c.matrix_title.ensures) c.in_err-append_block-5.ensures) c.from_residual-in_err-append_block-5.result footer))))) in
    record { lines = all_lines h s p; kept = p.kept }

pub returns : goal.returns
returns g c =
    let h = c.args.head.now in
    let s = solution_of h c.args.r.now in
    let last = c.append_line.ensures in
    let p =
    appends_then c.in_ok-append_header.ensures
    (appends_then c.in_ok-append_block.ensures
    (appends_then c.in_ok-append_block-2.ensures
    (appends_then c.in_ok-append_block-3.ensures
    (appends_then c.in_ok-append_block-4.ensures
    (appends_then (appends_as (ap (λ t. block t (walked_cells s)) c.matrix_title.ensures) c.in_ok-append_block-5.ensures)
    (appends_line _ _ _ _ _ _ last.granted last.after last.kept (codes "%ENDSNX") refl)))))) in
    record { lines = all_lines h s p; kept = p.kept }
