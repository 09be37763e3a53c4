use Rattle.std.proofs.Common.{ℕ, ◌+◌, [], ◌∷◌, take, drop, arith}
use Rattle.copies.proofs.Ends.{appends_line, onward_more, onward_stop, onward_end}
use Rattle.copies.proofs.Walks.{front, lines_more, lines_all}
use Rattle.copies.proofs.lines.append_records.Goals as goal
use Rattle.copies.specs.Bodies.{lines_from}

pub loop-x-preserved : goal.loop-x-preserved
loop-x-preserved g c =
    let line : ℕ → g.row.R.Denot → _ = λ i x. take g.R.Lined.wide (g.R.Lined.columns i x) in
    let i = c.loop-x.x-index in
    let k = c.loop-x.index in
    let x = c.x-item.result in
    let xs = c.args.records.now in
    let done = c.in_ok-append_line.ensures in (
      onward_more c.loop-x.invariant.0 (line k x ∷ []) (lines_from line (k + 1) (drop (i + 1) xs)) (lines_more line k xs i x c.loop-x-test.true c.x-item.is)
          (appends_line _ _ _ _ _ _ done.granted done.after done.kept (line k x) (front _ _ _ _ c.width.ensures.value c.write-columns.ensures)),
      omega (arith, c.loop-x.invariant.1),
    )

pub returns-in_err-append_line : goal.returns-in_err-append_line
returns-in_err-append_line g c =
    let line : ℕ → g.row.R.Denot → _ = λ i x. take g.R.Lined.wide (g.R.Lined.columns i x) in
    let i = c.loop-x.x-index in
    let k = c.loop-x.index in
    let x = c.x-item.result in
    let xs = c.args.records.now in
    let done = c.in_err-append_line.ensures in
    onward_stop c.loop-x.invariant.0 (line k x ∷ []) (lines_from line (k + 1) (drop (i + 1) xs)) (lines_more line k xs i x c.loop-x-test.true c.x-item.is)
    (appends_line _ _ _ _ _ _ done.granted done.after done.kept (line k x) (front _ _ _ _ c.width.ensures.value c.write-columns.ensures))
    c.from_residual.result

pub returns : goal.returns
returns g c =
    let line : ℕ → g.row.R.Denot → _ = λ i x. take g.R.Lined.wide (g.R.Lined.columns i x) in
    onward_end c.loop-x.invariant.0 (lines_all line c.loop-x.index c.args.records.now c.loop-x.x-index c.loop-x-test.false)
