-- A pairing as a row of partners, as code keeps it: one number for each camera, its own where the camera is unlit.
--   partner_in row k        the partner of camera k; beyond the row's end a camera is its own
--   rotate_row row u v      u and v paired, v's old partner unlit: three stores
--   light_row row u v       u and v paired: two stores
use Rattle.std.specs.Prelude.{List, ℕ, get_or, set}

abbrev pub partner_in : (row : List ℕ) → (camera : ℕ) → ℕ
partner_in row k = get_or row k k

abbrev pub rotate_row : (row : List ℕ) → (unlit fitting : ℕ) → List ℕ
rotate_row row u v = set (set (set row (get_or row v 0) (get_or row v 0)) u v) v u

abbrev pub light_row : (row : List ℕ) → (first second : ℕ) → List ℕ
light_row row u v = set (set row v u) u v
