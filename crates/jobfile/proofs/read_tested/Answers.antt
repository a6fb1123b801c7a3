-- The file is the layout of the job that its words say; the words that are written are those of its type and series.
use Rattle.std.proofs.Common.{refl, ap, sym, ℕ, ◌+◌, ◌*◌, [], ◌∷◌, arith, length, length-take, length-take-le}
use Rattle.field.specs.Answer.{result}
use Rattle.sizes.specs.declared.JobSizes.{JobSizes}
use Rattle.block.proofs.Over.{part_over}
use Rattle.jobfile.specs.Payload.{job_in}
use Rattle.jobfile.proofs.Passed.{ReadFits, reader_lengths, reader_fits, reader_admitted, reader_layout}
use Rattle.jobfile.proofs.read_tested.Goals as goal
use Rattle.jobfile.proofs.read_tested.Goals.{After-sizes_in-said}

-- the words that are read lie in the file, and in the buffers
fit : (c : After-sizes_in-said) →
    let args = c.args in
    let said = c.sizes_in-said.result in
    ReadFits args.file.now said.n said.s (length args.d.now) (length args.series.now)
fit c =
    let e = c.sizes_in-said.ensures in
    reader_fits c.args.file.now _ _ _ _ c.requires (ap (λ (j : JobSizes). j.n) e) (ap (λ (j : JobSizes). j.s) e)

pub sizes_in-said-requires : goal.sizes_in-said-requires
sizes_in-said-requires c = (reader_lengths c.args.file.now (length c.args.d.now) (length c.args.series.now) c.requires).good.some

pub slice_bounds-read_payload-end : goal.slice_bounds-read_payload-end
slice_bounds-read_payload-end c = let f = fit (goal.at.slice_bounds-read_payload-end c).After-sizes_in-said in omega arith

pub slice_bounds-read_payload-end-2 : goal.slice_bounds-read_payload-end-2
slice_bounds-read_payload-end-2 c = let f = fit (goal.at.slice_bounds-read_payload-end-2 c).After-sizes_in-said in simp length-take (omega arith)

pub read_payload-requires : goal.read_payload-requires
read_payload-requires c = let f = fit (goal.at.read_payload-requires c).After-sizes_in-said in simp length-take (omega arith)

pub slice_bounds-read_payload-end-3 : goal.slice_bounds-read_payload-end-3
slice_bounds-read_payload-end-3 c = (fit (goal.at.slice_bounds-read_payload-end-3 c).After-sizes_in-said).series_fits

pub slice_bounds-read_payload-end-4 : goal.slice_bounds-read_payload-end-4
slice_bounds-read_payload-end-4 c = sym (length-take-le _ _ (fit (goal.at.slice_bounds-read_payload-end-4 c).After-sizes_in-said).series_fits)

pub read_payload-requires-2 : goal.read_payload-requires-2
read_payload-requires-2 c =
    let f = fit (goal.at.read_payload-requires-2 c).After-sizes_in-said in
    rw (length-take-le _ _ f.series_fits) f.in_file

pub returns : goal.returns
unfolding job_in
returns c =
    let file = c.args.file.now in
    let f = fit (goal.at.returns c).After-sizes_in-said in
    let e = c.sizes_in-said.ensures in
    let n = ap (λ (j : JobSizes). j.n) e in
    let size = ap (λ (j : JobSizes). j.n * j.s) e in
    record {
      job = job_in file;
      admitted = reader_admitted file _ _ c.requires;
      laid_out = reader_layout file _ _ c.requires (λ i. (c.type_inv.file i).fits);
      says = ap (λ (j : JobSizes). result (j.p ∷ j.n ∷ j.s ∷ [])) e;
      type_written = part_over file _ _ _ _ _ _ refl n (omega arith) c.read_payload.ensures;
      series_written = part_over file _ _ _ _ _ _ (ap (λ (k : ℕ). 3 + k) n) size f.series_fits c.read_payload-2.ensures;
    }
