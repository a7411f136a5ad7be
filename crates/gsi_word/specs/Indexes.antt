use Rattle.std.specs.Prelude.{ℕ}

-- The word indexes that have a meaning here (Leica GSI Online manual, table of word indexes).

-- a point's number: the name of a station or a target
abbrev pub point_number : ℕ
point_number = 11

-- the horizontal and the vertical angle
abbrev pub horizontal_angle : ℕ
horizontal_angle = 21

abbrev pub vertical_angle : ℕ
vertical_angle = 22

-- the slope distance and the horizontal distance
abbrev pub slope_distance : ℕ
slope_distance = 31

abbrev pub horizontal_distance : ℕ
horizontal_distance = 32

-- the height difference, in this project's profile from the tilting axis to the reflector
abbrev pub height_difference : ℕ
height_difference = 33

-- the height of the target, as the instrument computed it
abbrev pub target_height : ℕ
target_height = 83

-- the station's easting, northing and height
abbrev pub station_easting : ℕ
station_easting = 84

abbrev pub station_northing : ℕ
station_northing = 85

abbrev pub station_height : ℕ
station_height = 86

-- the height of the reflector above the target
abbrev pub reflector_height : ℕ
reflector_height = 87

-- the height of the instrument's tilting axis above the station
abbrev pub instrument_height : ℕ
instrument_height = 88
