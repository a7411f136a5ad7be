use Rattle.std.proofs.Common.{◌≡◌, ◌<◌, All, unsigned_abs, bytes_eq, map, take, true}
use Rattle.std.specs.List.{list_all, list_any}
use Rattle.std.specs.Map.{keys_of}
use Rattle.th_certificate.specs.Certified.{stated_height}
use Rattle.th_network.specs.Limits.{height_limit}
use Rattle.th_checker.proofs.maps.heights_at.Given as goal

abbrev pub invariant-loop-name : goal.invariant-loop-name
invariant-loop-name l = record {
  value : l.heights.items ≡ map (stated_height l.stated) (take l.name-index l.points.keys);
  in_range : All (λ height. unsigned_abs height < height_limit) l.heights.items;
  all : list_all (λ name. list_any (bytes_eq name) (keys_of l.stated)) (take l.name-index l.points.keys) ≡ true;
}
