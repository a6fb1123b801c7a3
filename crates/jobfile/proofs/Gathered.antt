-- A job's words, written one part after the other to as many lent ones.
use Rattle.std.proofs.Common.{◌≡◌, ℕ, ◌+◌, ◌-◌, ◌≤◌, List, [], ◌∷◌, ◌++◌, append-nil, arith, length, drop, length-append, take_at, drop_at}
use lib.ListN.{drop_of_length-le}
use borrow.Rule.Slice.PartMut.{put_mid}
use Rattle.jobfile.specs.Job.{job_of}
use Rattle.jobfile.specs.Layout.{words_of}

-- the last part, behind what was written
behind : (done rest y : List ℕ) (a k : ℕ) → length done ≡ a → length rest ≤ k → put_mid a k (done ++ rest) y ≡ done ++ y
behind done rest y a k e h = rw (take_at done rest a e, drop_at done rest a e, drop_of_length-le rest {i = k} h, append-nil)

pub gathered : (ws : List ℕ) (p n s : ℕ) (d series first x y : List ℕ) → length ws ≡ 3 + length d + length series
    → first ≡ p ∷ n ∷ s ∷ [] → x ≡ d → y ≡ series
    → let begun = put_mid 3 (3 + length d - 3) (first ++ drop 3 ws) x in
    put_mid (3 + length d) (length begun - (3 + length d)) begun y ≡ words_of (job_of p n s d series)
unfolding words_of
gathered ws p n s d series first x y h ef ex ey =
    let done = p ∷ n ∷ s ∷ d in
    let rest = drop (length d) (drop 3 ws) in
    let k : 3 + length d - 3 ≡ length d = omega arith in
    rw (ef, ex, ey, k) (behind done rest series (3 + length d) (length (done ++ rest) - (3 + length d)) (omega arith) (omega (arith, length-append done rest)))
