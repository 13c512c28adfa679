-- An image of the two parts that the encoder makes: its data, and its text with the words of its map.
use Rattle.om_image.specs.declared.image.Image.{Image}
use Rattle.om_encode.specs.declared.data_part.DataPart.{DataPart}
use Rattle.om_encode.specs.declared.text_part.TextPart.{TextPart}

abbrev pub joined : DataPart → TextPart → Image
joined d t = record {
  entry = d.entry;
  gp = d.gp;
  text = t.text;
  bytes = d.bytes;
  bss = d.bss;
  map = record { objects = d.objects; tables = d.tables; regions = d.regions; words = t.words };
}
