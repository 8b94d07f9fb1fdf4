-- What contracts see of each kind of value.
use Rattle.value_model.specs.declared.value.Kind.{Kind}
use Rattle.value_model.specs.declared.value.Kind.TheVariants.{Null, Boolean, Integer, Time, Pending, Text, Bytes, Reference, Array, Map}
use Rattle.value_model.specs.Data.{Data, null, boolean, integer, time, pending, text, bytes, reference, array_of, map_of}

abbrev pub kind_data : Kind → Data
kind_data Null = null
kind_data (Boolean b) = boolean b
kind_data (Integer n) = integer n
kind_data (Time t) = time t
kind_data (Pending t) = pending t
kind_data (Text s) = text s
kind_data (Bytes s) = bytes s
kind_data (Reference r) = reference r.value
kind_data (Array values) = array_of values
kind_data (Map fields) = map_of fields
