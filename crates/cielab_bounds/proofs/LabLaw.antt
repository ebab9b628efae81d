-- The law of the three coordinates: a chain of the laws of the operations.
use Rattle.std.proofs.Common.{pos, ◌*◌}
use Rattle.interval_specs.specs.Ends.{one_at}
use Rattle.interval_specs.proofs.Laws.{difference_encloses, multiple_encloses, one_encloses}
use Rattle.cielab_bounds.specs.Cielab.{lightness_at, red_green_at, yellow_blue_at}
use Rattle.cielab_bounds.specs.Laws.{LabEncloses}
use Rattle.cielab_bounds.proofs.FLaw.{f_encloses}

pub lab_encloses : LabEncloses
unfolding lightness_at red_green_at yellow_blue_at
lab_encloses n m r r' some px py pz h =
    let fx = f_encloses n m r.x r'.x some px h.x in
    let fy = f_encloses n m r.y r'.y some py h.y in
    let fz = f_encloses n m r.z r'.z some pz h.z in
    record {
      l = difference_encloses m _ _ _ _ (multiple_encloses m (pos 116) _ _ fy) (multiple_encloses m (pos 16) (one_at n) (one_at (m * n)) (one_encloses n m));
      a = multiple_encloses m (pos 500) _ _ (difference_encloses m _ _ _ _ fx fy);
      b = multiple_encloses m (pos 200) _ _ (difference_encloses m _ _ _ _ fy fz);
    }
