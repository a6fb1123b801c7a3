-- `type_and_series` meets its contract: each part goes on with the definition where the one before stopped.
use mathlib.Core.Path.{◌≡◌, sym, ◌∙◌}
use Prim.Native.Nat.{◌*◌, ◌≤◌}
use Rattle.std.proofs.Common.{rules}
use Rattle.std.proofs.lemmas.Result.{err_from_is_err_and}
use Rattle.words.proofs.Sizes.{series_small}
use Rattle.jobtext.specs.declared.Slip.{Slip}
use Rattle.jobtext.specs.Reading.{ahead}
use Rattle.jobtext.specs.Job.{is_below, job, at_end, from_type, from_series}
use Rattle.jobtext.proofs.Reading.{filled, unfilled, ended, not_ended, follows_wrong, follows_job, type_by, lent_zeros, stands}
use Rattle.jobtext.proofs.Reader.type_and_series.Goals as goal
use Rattle.jobtext.proofs.Reader.type_and_series.Goals.{In_ok-numbers, In_ok-numbers-2}

pub slice_bounds-f-end : goal.slice_bounds-f-end
slice_bounds-f-end c = series_small c.args.sizes.n c.args.sizes.s c.requires.0 c.requires.1

pub slice_bounds-numbers-end : goal.slice_bounds-numbers-end
slice_bounds-numbers-end c = lent_zeros 8 c.args.sizes.n c.requires.0

pub slice_bounds-numbers-end-2 : goal.slice_bounds-numbers-end-2
slice_bounds-numbers-end-2 c = lent_zeros 2040 (c.args.sizes.n * c.args.sizes.s) (series_small c.args.sizes.n c.args.sizes.s c.requires.0 c.requires.1)

pub slice_bounds-copy_from_slice-end-4 : goal.slice_bounds-copy_from_slice-end-4
slice_bounds-copy_from_slice-end-4 c = let h = series_small c.args.sizes.n c.args.sizes.s c.requires.0 c.requires.1 in search rules

pub returns-in_err-numbers : goal.returns-in_err-numbers
returns-in_err-numbers c =
    let full = lent_zeros 8 c.args.sizes.n c.requires.0 ∙ sym c.numbers.auto.out in
    let go = from_series c.args.sizes.p c.args.sizes.n c.args.sizes.s in
    let p = err_from_is_err_and c.from_residual.result c.from_residual.ensures.1 in
    rw (p.1, p.2) (follows_wrong _ _ _ (type_by c.args.sizes.p c.args.sizes.n c.args.sizes.s _ ∙ unfilled (is_below 256) Slip.Entry _ _ _ _ full _ c.in_err-numbers.ensures go))

read_d : (c : In_ok-numbers) → c.args.sizes.n ≤ 8
    → from_type c.args.sizes.p c.args.sizes.n c.args.sizes.s (ahead c.args.self.now.text.now c.args.self.now.here)
    ≡ from_series c.args.sizes.p c.args.sizes.n c.args.sizes.s c.numbers.new.out (ahead c.numbers.new.self.text.now c.numbers.new.self.here)
read_d c h =
    type_by c.args.sizes.p c.args.sizes.n c.args.sizes.s _
    ∙ filled (is_below 256) Slip.Entry _ _ _ _ (lent_zeros 8 c.args.sizes.n h ∙ sym c.numbers.auto.out) _ c.in_ok-numbers.ensures (from_series c.args.sizes.p c.args.sizes.n c.args.sizes.s)

pub returns-in_err-numbers-2 : goal.returns-in_err-numbers-2
unfolding from_series
returns-in_err-numbers-2 c =
    let at = goal.at.returns-in_err-numbers-2 c in
    let few = series_small c.args.sizes.n c.args.sizes.s c.requires.0 c.requires.1 in
    let full = lent_zeros 2040 (c.args.sizes.n * c.args.sizes.s) few ∙ sym c.numbers-2.auto.out in
    let p = err_from_is_err_and c.from_residual-in_err-numbers-2.result c.from_residual-in_err-numbers-2.ensures.1 in
    rw (p.1, p.2) (follows_wrong _ _ _ (read_d at.In_ok-numbers c.requires.0
    ∙ unfilled (is_below c.args.sizes.p) Slip.Coefficient _ _ _ _ full _ c.in_err-numbers-2.ensures (λ f. at_end (job c.args.sizes.p c.args.sizes.n c.args.sizes.s c.numbers.new.out f))))

read_f : (c : In_ok-numbers-2) → c.args.sizes.n * c.args.sizes.s ≤ 2040
    → from_series c.args.sizes.p c.args.sizes.n c.args.sizes.s c.numbers.new.out (ahead c.numbers.new.self.text.now c.numbers.new.self.here)
    ≡ at_end (job c.args.sizes.p c.args.sizes.n c.args.sizes.s c.numbers.new.out c.numbers-2.new.out) (ahead c.numbers-2.new.self.text.now c.numbers-2.new.self.here)
unfolding from_series
read_f c h =
    filled (is_below c.args.sizes.p) Slip.Coefficient _ _ _ _ (lent_zeros 2040 (c.args.sizes.n * c.args.sizes.s) h ∙ sym c.numbers-2.auto.out) _ c.in_ok-numbers-2.ensures
    (λ f. at_end (job c.args.sizes.p c.args.sizes.n c.args.sizes.s c.numbers.new.out f))

pub returns-in_err-end : goal.returns-in_err-end
returns-in_err-end c =
    let at = goal.at.returns-in_err-end c in
    let few = series_small c.args.sizes.n c.args.sizes.s c.requires.0 c.requires.1 in
    let p = err_from_is_err_and c.from_residual-in_err-end.result c.from_residual-in_err-end.ensures.1 in
    rw (p.1, p.2) (follows_wrong _ _ _ (read_d at.In_ok-numbers c.requires.0 ∙ read_f at.In_ok-numbers-2 few ∙ not_ended _ _ _ c.in_err-end.ensures))

pub returns : goal.returns
returns c =
    let at = goal.at.returns c in
    let few = series_small c.args.sizes.n c.args.sizes.s c.requires.0 c.requires.1 in
    let entries = lent_zeros 8 c.args.sizes.n c.requires.0 ∙ sym c.numbers.auto.out in
    let coefficients = lent_zeros 2040 (c.args.sizes.n * c.args.sizes.s) few ∙ sym c.numbers-2.auto.out in
    follows_job _ _ _ _ _ _ _ _ _
    (read_d at.In_ok-numbers c.requires.0 ∙ read_f at.In_ok-numbers-2 few ∙ ended _ _ _ c.in_ok-end.ensures)
    (stands _ _ _ _ _ entries c.copy_from_slice.ensures.after)
    (stands _ _ _ _ _ coefficients c.copy_from_slice-2.ensures.after)
